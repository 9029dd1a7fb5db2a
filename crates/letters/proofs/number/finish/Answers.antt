-- `finish` meets its contract: a number of 64 bits is one of 32 bits just where it is at most the largest of those.
-- Nothing wraps, since the product is made in 64 bits.
use Rattle.std.specs.Prelude.{◌≡◌, ℕ, ◌<◌, Result, Ok, Err, OkIff}
use Rattle.std.specs.Result.{result_ok}
use Rattle.std.proofs.Common.{sym, ◌∙◌, arith}
use Rattle.letters.specs.Numbers.{number_of}
use Rattle.letters.proofs.Numbers.{number_fits, number_passes}
use Rattle.letters.proofs.number.finish.Goals as goal

kept : {E : Type 0} (r : Result ℕ E) (n : ℕ) → OkIff r (n < 4294967296) n → result_ok r ≡ number_of n
kept (Ok x) n f = rw (f.1) (sym (number_fits n (omega (arith, f.0))))
kept (Err e) n f = sym (number_passes n (omega (arith, f)))

pub returns : goal.returns
returns c = c.ok.ensures.value ∙ kept c.try_from.result _ c.try_from.ensures
