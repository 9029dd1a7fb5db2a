-- Searches of the library over a list of statements: each member may be looked at, and what is kept is what the definitions keep.
-- The members are said by their places.
use mathlib.Core.Path.{◌≡◌, refl, sym, ap, ◌∙◌, subst}
use mathlib.Core.Bool.{Bool}
use mathlib.Core.List.{List, [], ◌∷◌}
use Prim.Native.Nat.{ℕ, ◌<◌}
use lib.ListN.{length, get_or}
use Rattle.std.specs.List.{filter}
use Rattle.std.proofs.lemmas.Grind.{get_or_default_zero}
use Rattle.laws.specs.Tools.{keep}
use Rattle.laws.specs.Lists.{boole}
use Rattle.table.specs.Records.{StatementIn}
use Rattle.theorem.specs.Goal.{InStatements}

pub member_stands : (ss list : List ℕ) → InStatements ss list → (x k : ℕ) → k < length list → x ≡ get_or list k x → StatementIn ss x
member_stands ss list s x k l e = subst (StatementIn ss) (sym (e ∙ get_or_default_zero list k x l)) (s.inside k l)

pub filter_keep : (test : ℕ → Bool) (xs : List ℕ) → filter test xs ≡ keep test xs
unfolding keep
filter_keep test [] = refl
filter_keep test (x ∷ xs) = boole (test x) (λ h. rw h (ap (λ ys. x ∷ ys) (filter_keep test xs))) (λ h. rw h (filter_keep test xs))
