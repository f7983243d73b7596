-- `fmtp::read_text::strip_word` compares each octet with the word's or its capital.
use Rattle.std.proofs.Common.{rules, ◌≡◌, ◌∙◌, arith, map, bytes_eq}
use Rattle.std.proofs.lemmas.Grind.{common_steps}
use Rattle.std.proofs.lemmas.Bool.Decides.{nat_tests}
use Rattle.std.specs.Char.{to_ascii_lowercase}
use Rattle.std.proofs.lemmas.Iterator.{YieldsList-from_slice, YieldsList-from_zip}
use Rattle.std.proofs.lemmas.Iterator.Search.{all_from_yields_List}
use Rattle.fmtp.specs.Steps.{behind_word}
use Rattle.fmtp.proofs.Words.{is_octet, octets_fold, behind_short}
use Rattle.fmtp.proofs.read_text.strip_word.Goals as goal

pub returns-in_err-start : goal.returns-in_err-start
returns-in_err-start c = rw (c.from_residual.ensures, behind_short _ _ c.in_err-start.ensures.cases)

pub returns : goal.returns
unfolding behind_word
returns c =
    let start = c.in_ok-start.start.now in
    let word = c.args.word.now in
    let all = all_from_yields_List is_octet c.all.new.self _ c.all.result c.all.ensures.ran (YieldsList-from_zip (YieldsList-from_slice start cc) (YieldsList-from_slice word cc)) (λ x b q k. grind (arith, common_steps, nat_tests)) in
    let e : c.all.result ≡ bytes_eq (map to_ascii_lowercase start) word = all ∙ octets_fold start word (grind arith) c.requires in
    rw c.then_some.ensures (search rules)
