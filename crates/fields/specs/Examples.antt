-- The worked examples of mode 1, for the theorems (docs/FORMAT.md, "Fields"); no public promise cites this file.
use Rattle.std.specs.Prelude.{◌≡◌, List, ℕ, set, replicate}
use Rattle.refusal.specs.Report.{accepted}
use Rattle.fields.specs.Table.{fields_of, body_of}
use Rattle.fields.specs.Modes.{table_of}
use Rattle.fields.specs.Answers.{unpacking, packing}

-- the fields of mode 1, "all 0 but" one
abbrev pub fields_but : ℕ → ℕ → List ℕ
fields_but i v = set (replicate 11 0) i v

-- the octets of a body, all 0 but one
abbrev pub octets_but : ℕ → ℕ → List ℕ
octets_but i v = set (replicate 7 0) i v

-- in mode 1 these fields are packed into this body, and unpacked from it
pub record Example (fields body : List ℕ) : Type 0 where
  pub takes_fields : packing 1 fields 7 ≡ accepted 7
  pub packed : body_of (table_of 1) fields ≡ body
  pub takes_body : unpacking 1 body 11 ≡ accepted 11
  pub unpacked : fields_of (table_of 1) body ≡ fields

-- "Mode 1, all 0 but Voicing 16: `01 00*6`; but GAIN1 1: `00*6 20`; but GAIN1 64: `00*5 80 00`"
pub record Examples : Type 0 where
  pub voicing_16 : Example (fields_but 0 16) (octets_but 0 0x01)
  pub gain1_1 : Example (fields_but 10 1) (octets_but 6 0x20)
  pub gain1_64 : Example (fields_but 10 64) (octets_but 5 0x80)
