-- `best` is the greatest total not over the room, and `choose` reaches it: document 01's `a set with the greatest total cost not over W − position`.
-- Of the sets that reach it, `choose` gives the one that document 01's tie rule asks for.
use Rattle.std.specs.Prelude.{◌≡◌, refl, ◌≢◌, ◌⊎◌, ℕ, zero, suc, ◌+◌, ◌-◌, ◌≤◌, ◌<◌, max, Bool, true, false, not, List, [], ◌∷◌, ◌++◌, map, T, leb, eqb}
use Rattle.std.proofs.Common.{sym, ap, ◌∙◌, inl, inr, arith, leb→le, eqb→eq}
use Rattle.std.proofs.Math.Decide.{ℕ_discrete}
use Rattle.std.proofs.Math.Dec.{nleb→lt}
use Rattle.laws.specs.Tools.{pick, total, sum_below}
use Rattle.laws.specs.Lists.{boole, T_of, clash, eqb_yes, eqb_no, All, all_map, all_snoc, found_all, found_end, found_other, member_is}
use Rattle.laws.specs.Sums.{tot_append, sum_eq}
use Rattle.defs.specs.Order.{best, rest_reaches, choose}
use Rattle.defs.specs.ChoiceLaws.{Agree, Ascending, LeavesOut, cost_taken, in_choice}

fits_step : (t : Bool) (c a b room : ℕ) → (T t → c ≤ room) → a ≤ room → b ≤ room - c → pick t (max a (c + b)) a ≤ room
fits_step true c a b room h ha hb = let hc = h tt in omega arith
fits_step false c a b room h ha hb = ha

-- not over the room
pub best_fits : (cost : ℕ → ℕ) (i room : ℕ) → best cost i room ≤ room
unfolding best
best_fits cost zero room = omega arith
best_fits cost (suc i) room =
    fits_step (leb (cost i) room) (cost i) (best cost i room) (best cost i (room - cost i)) room (leb→le (cost i) room) (best_fits cost i room) (best_fits cost i (room - cost i))

greatest_step : (taken t : Bool) (s c a b room : ℕ) → (T (not t) → room < c) → s + pick taken c 0 ≤ room → (s ≤ room → s ≤ a) → (s ≤ room - c → s ≤ b)
    → s + pick taken c 0 ≤ pick t (max a (c + b)) a
greatest_step true true s c a b room h hs ha hb = let k = hb (omega arith) in omega arith
greatest_step true false s c a b room h hs ha hb = let k = h tt in absurd (omega arith)
greatest_step false true s c a b room h hs ha hb = let k = ha (omega arith) in omega arith
greatest_step false false s c a b room h hs ha hb = let k = ha (omega arith) in omega arith

-- no set that keeps to the room costs more
pub best_greatest : (cost : ℕ → ℕ) (taken : ℕ → Bool) (i room : ℕ) → cost_taken cost taken i ≤ room → cost_taken cost taken i ≤ best cost i room
unfolding best sum_below
best_greatest cost taken zero room h = omega arith
best_greatest cost taken (suc i) room h =
    greatest_step (taken i) (leb (cost i) room) (cost_taken cost taken i) (cost i) (best cost i room) (best cost i (room - cost i)) room
    (nleb→lt (cost i) room) h (best_greatest cost taken i room) (best_greatest cost taken i (room - cost i))

-- the test of an item that is left out
rest_reaches_lem : (cost : ℕ → ℕ) (i room : ℕ) → rest_reaches cost i room ≡ true → best cost (suc i) room ≡ best cost i room
unfolding rest_reaches
rest_reaches_lem cost i room h = eqb→eq (best cost (suc i) room) (best cost i room) (T_of h)

rest_falls_short : (cost : ℕ → ℕ) (i room : ℕ) → rest_reaches cost i room ≡ false → best cost (suc i) room ≢ best cost i room
unfolding rest_reaches
rest_falls_short cost i room h e = clash (eqb (best cost (suc i) room) (best cost i room)) (eqb_yes (best cost (suc i) room) (best cost i room) e) h

reaches_step : (t : Bool) (c a b : ℕ) → ¬ (pick t (max a (c + b)) a ≡ a) → b + c ≡ pick t (max a (c + b)) a
reaches_step true c a b h = omega arith
reaches_step false c a b h = absurd (h refl)

-- else the item and the greatest total for the room that it leaves
with_item : (cost : ℕ → ℕ) (i room : ℕ) → best cost (suc i) room ≢ best cost i room → best cost i (room - cost i) + cost i ≡ best cost (suc i) room
unfolding best
with_item cost i room = reaches_step (leb (cost i) room) (cost i) (best cost i room) (best cost i (room - cost i))

-- the chosen set costs just that
pub choose_reaches : (cost : ℕ → ℕ) (i room : ℕ) → total (map cost (choose cost i room)) ≡ best cost i room
unfolding choose best
choose_reaches cost zero room = refl
choose_reaches cost (suc i) room =
    boole (rest_reaches cost i room)
    (λ e. rw e (choose_reaches cost i room ∙ sym (rest_reaches_lem cost i room e)))
    (λ e. rw e
    (tot_append cost (choose cost i (room - cost i)) (i ∷ [])
    ∙ omega (arith, choose_reaches cost i (room - cost i), with_item cost i room (rest_falls_short cost i room e))))

-- it is not over the room
pub choose_fits : (cost : ℕ → ℕ) (i room : ℕ) → total (map cost (choose cost i room)) ≤ room
choose_fits cost i room = omega (arith, choose_reaches cost i room, best_fits cost i room)

-- and stays so with a higher one at the end
ascending_snoc : (xs : List ℕ) (i : ℕ) → All (λ x. x < i) xs → Ascending xs → Ascending (xs ++ (i ∷ []))
ascending_snoc [] i a o = (tt, tt)
ascending_snoc (x ∷ xs) i a o = (all_snoc (λ y. x < y) xs i o.0 a.0, ascending_snoc xs i a.1 o.1)

-- the chosen items are among the first i, each once, ascending
pub choose_ascending : (cost : ℕ → ℕ) (i room : ℕ) → All (λ j. j < i) (choose cost i room) × Ascending (choose cost i room)
unfolding choose
choose_ascending cost zero room = (tt, tt)
choose_ascending cost (suc i) room =
    let up : (j : ℕ) → j < i → j < suc i = λ j l. omega arith in
    let without = choose_ascending cost i room in
    let with_it = choose_ascending cost i (room - cost i) in
    boole (rest_reaches cost i room)
    (λ e. rw e (all_map (λ j. j < i) _ up (choose cost i room) without.0, without.1))
    (λ e. rw e (
      all_snoc (λ j. j < suc i) (choose cost i (room - cost i)) i (all_map (λ j. j < i) _ up (choose cost i (room - cost i)) with_it.0) (omega arith),
      ascending_snoc (choose cost i (room - cost i)) i with_it.0 with_it.1,
    ))

-- one more item, on which they agree
agree_next : (taken before chosen : ℕ → Bool) (i : ℕ) → Agree before chosen i → taken i ≡ chosen i
    → Agree taken before i ⊎ LeavesOut taken before i → Agree taken chosen (suc i) ⊎ LeavesOut taken chosen (suc i)
agree_next taken before chosen i same last r =
    let next : (j : ℕ) → (j < i → taken j ≡ before j) → j < suc i → taken j ≡ chosen j =
    λ j below l. elim (ℕ_discrete j i) [
      | yes e ↦ ap taken e ∙ last ∙ ap chosen (sym e)
      | no e ↦ below (omega arith) ∙ same j (omega arith)
    ] in
    elim r [
      | inl agree ↦ inl (λ j. next j (agree j))
      | inr h ↦ inr (record {
        item = h.item;
        item_below = omega (arith, h.item_below);
        is_taken = h.is_taken;
        left_out = sym (same h.item h.item_below) ∙ h.left_out;
        same_above = λ j l. next j (h.same_above j l);
      })
    ]

-- one more item makes the greatest total no less
best_more : (cost : ℕ → ℕ) (i room : ℕ) → best cost i room ≤ best cost (suc i) room
unfolding best
best_more cost i room = boole (leb (cost i) room) (λ h. rw h (omega arith)) (λ h. rw h (omega arith))

-- item i is not among those below it
not_chosen : (cost : ℕ → ℕ) (i room : ℕ) → in_choice cost i room i ≡ false
not_chosen cost i room =
    boole (in_choice cost i room i)
    (λ h. absurd (omega (arith, found_all (λ j. j < i) i (choose cost i room) (sym (member_is i (choose cost i room)) ∙ h) (choose_ascending cost i room).0)))
    (λ h. h)

-- where the rest still reaches the greatest total, item i is left out
leaves_it : (cost : ℕ → ℕ) (i room : ℕ) → best cost (suc i) room ≡ best cost i room → (j : ℕ) → in_choice cost (suc i) room j ≡ in_choice cost i room j
unfolding choose rest_reaches
leaves_it cost i room h j = rw (eqb_yes (best cost (suc i) room) (best cost i room) h)

-- else it is taken, and the others are chosen for the room that it leaves
takes_it : (cost : ℕ → ℕ) (i room : ℕ) → best cost (suc i) room ≢ best cost i room
    → (in_choice cost (suc i) room i ≡ true) × ((j : ℕ) → j < i → in_choice cost i (room - cost i) j ≡ in_choice cost (suc i) room j)
unfolding choose rest_reaches
takes_it cost i room h =
    let rest : List ℕ = choose cost i (room - cost i) in
    rw (eqb_no (best cost (suc i) room) (best cost i room) h) (
      member_is i (rest ++ (i ∷ [])) ∙ found_end (eqb i) rest i (eqb_yes i i refl),
      λ j l. member_is j rest ∙ sym (found_other (eqb j) rest i (eqb_no j i (omega arith))) ∙ sym (member_is j (rest ++ (i ∷ []))),
    )

-- the chosen set is one of those that reach the greatest total
pub choice_reaches : (cost : ℕ → ℕ) (i room : ℕ) → cost_taken cost (in_choice cost i room) i ≡ best cost i room
unfolding sum_below best
choice_reaches cost zero room = refl
choice_reaches cost (suc i) room =
    let cost-of : ℕ → Bool → ℕ = λ j t. pick t (cost j) 0 in
    let sum : (ℕ → Bool) → ℕ = λ taken. sum_below (λ j. cost-of j (taken j)) i in
    elim (ℕ_discrete (best cost (suc i) room) (best cost i room)) [
      | yes e ↦ (let same : sum (in_choice cost (suc i) room) ≡ sum (in_choice cost i room) = sum_eq _ _ i (λ j l. ap (cost-of j) (leaves_it cost i room e j)) in
          omega (arith, same, ap (cost-of i) (leaves_it cost i room e i ∙ not_chosen cost i room), choice_reaches cost i room))
      | no e ↦ (let into = takes_it cost i room e in
          let same : sum (in_choice cost i (room - cost i)) ≡ sum (in_choice cost (suc i) room) = sum_eq _ _ i (λ j l. ap (cost-of j) (into.1 j l)) in
          omega (
            arith,
            same,
            ap (cost-of i) into.0,
            choice_reaches cost i (room - cost i),
            with_item cost i room e,
          ))
    ]

-- any set that reaches the greatest total is the chosen one, or at the highest item on which the two differ it takes the item and the chosen one leaves it out
pub choose_ties : (cost : ℕ → ℕ) (taken : ℕ → Bool) (i room : ℕ) → cost_taken cost taken i ≡ best cost i room
    → Agree taken (in_choice cost i room) i ⊎ LeavesOut taken (in_choice cost i room) i
unfolding sum_below best
choose_ties cost taken zero room h = inl (λ j l. absurd (omega arith))
choose_ties cost taken (suc i) room h =
    let cost-of : Bool → ℕ = λ t. pick t (cost i) 0 in
    elim (ℕ_discrete (best cost (suc i) room) (best cost i room)) [
      | yes e ↦ (let out = leaves_it cost i room e in
          let left : in_choice cost (suc i) room i ≡ false = out i ∙ not_chosen cost i room in
          boole (taken i)
          (λ t. inr (record { item = i; item_below = omega arith; is_taken = t; left_out = left; same_above = λ j l m. absurd (omega arith) }))
          (λ t. agree_next taken (in_choice cost i room) (in_choice cost (suc i) room) i (λ j l. sym (out j)) (t ∙ sym left)
          (choose_ties cost taken i room (omega (arith, ap cost-of t)))))
      | no e ↦ (let into = takes_it cost i room e in
          boole (taken i)
          (λ t. agree_next taken (in_choice cost i (room - cost i)) (in_choice cost (suc i) room) i into.1 (t ∙ sym into.0)
          (choose_ties cost taken i (room - cost i)
          (omega (arith, ap cost-of t, reaches_step (leb (cost i) room) (cost i) (best cost i room) (best cost i (room - cost i)) e))))
          (λ t. let total-is : cost_taken cost taken i ≡ best cost (suc i) room = omega (arith, ap cost-of t) in
          absurd (omega (arith, best_more cost i room, best_greatest cost taken i room (omega (arith, best_fits cost (suc i) room))))))
    ]
