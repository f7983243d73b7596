-- `listing::put_decimal` stores the digits of a number: those of its tenth, then its last.
use Rattle.listing.proofs.+put_decimal.Given as goal

abbrev pub decreases-put_decimal : goal.decreases-put_decimal
decreases-put_decimal l = l.n
