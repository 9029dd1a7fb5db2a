-- Replaying a walk is interning its forest, whatever the walk marks.
use Rattle.std.specs.Prelude.{◌≡◌, refl, Bool, ◌&&◌, ◌||◌, ◌⊎◌, get_or, leb, ltb}
use Rattle.std.proofs.Math.Path.{sym, ap}
use Rattle.std.proofs.Common.{◌∙◌, arith, le→leb}
use Prim.Native.Nat.{ℕ, suc, ◌+◌, ◌-◌, ◌*◌, ◌≤◌, ◌<◌}
use Rattle.std.proofs.Math.Bool.{true, false}
use mathlib.Core.List.{List, [], ◌∷◌, ◌++◌, map, append_assoc, append-nil}
use Rattle.std.proofs.Math.Logic.{inl, inr}
use Rattle.std.proofs.Math.ListN.{length, length-append}
use Rattle.std.proofs.lemmas.List.{length-map, get_or_at}
use Rattle.std.proofs.Math.Seq.{take_at, drop_at}
use Rattle.std.proofs.Math.Dec.{T, eqb}
use Rattle.std.proofs.Math.Facts.{yes_eqb}
use Rattle.laws.specs.Tools.{pick, all_of}
use Rattle.defs.specs.Table.{statements, hyp_count, max_entries, max_child_refs}
use Rattle.defs.specs.Check.{first_of}
use Rattle.defs.specs.Steps.{Step, is_normal}
use Rattle.defs.specs.Replay.{Replay, step_rules, malformed, stack_short, popped, left, no_room, normal_step, refer_step, name_top, after_step, Turn, going, and_then, one_step, all_steps}
use Rattle.laws.specs.Lists.{boole, or_left, or_right, not_no, eqb_yes, eqb_no, leb_yes, leb_no, All, all_snoc, map_snoc, find, found, found_lt, find_none, found_all, found_at}
use Rattle.lengths.specs.Forests.{Forest, nil, node, relabel, width, sub, Good, Under}
use Rattle.roundtrip.specs.Stores.{Ent, is, at, put, refs, look, intern, Grow, refs_end, put_known, put_new, put_le, put_grow, intern_grow, In, intern_in, look_node, intern_skip, look_skip, look_length, idx, Know, knows_more, know_put}
use Rattle.lengths.specs.Walks.{norm_step, back_step, marked, mark, mark_no, marks, packed, packed_back, marks_back, packed_open, marks_open}
use Rattle.roundtrip.specs.Words.{ents, chil, rep, ents_length, chil_length, built_count_lem, ents_more, chil_more, lookup_is}
use Rattle.laws.specs.Below.{all_of_each}

module _ (w : List ℕ) (rb rk : ℕ) where
  -- a step that no test refuses is done
  step_goes : (r : Replay) (t : Step) → malformed w r t ≡ false → stack_short w r t ≡ false → no_room w rb rk r t ≡ false
      → one_step w rb rk r t ≡ going (after_step w r t)
  unfolding one_step first_of
  step_goes r t a b c = rw (a, b, c)

  -- the store keeps to the slices and to the limits
  abbrev pub Room : List Ent → Type 0
  Room st = (3 * length st ≤ rb) × (refs st ≤ rk) × (length st ≤ max_entries) × (refs st ≤ max_child_refs)

  pub room_less : (a b : List Ent) → Grow a b → Room b → Room a
  room_less a b g r = omega arith

  -- what names the entry just pushed
  abbrev names_after : ℕ → List ℕ → ℕ → List ℕ
  names_after m ms i = pick (eqb m 0) ms (ms ++ (i ∷ []))

  name_top_lem : (t : Step) (st : List Ent) (stk ms : List ℕ) (i : ℕ) → name_top t (rep st (stk ++ (i ∷ [])) ms) ≡ rep st (stk ++ (i ∷ [])) (names_after t.mark ms i)
  unfolding name_top
  name_top_lem t st stk ms i =
      ap (λ (j : ℕ). rep st (stk ++ (i ∷ [])) (names_after t.mark ms j))
      (get_or_at stk i [] 0 (length (stk ++ (i ∷ [])) - 1) (omega (arith, length-append stk (i ∷ []))))

  module _ (m s : ℕ) (st : List Ent) (stk cs ms : List ℕ) (fit : hyp_count w s ≡ length cs) where
    abbrev r : Replay
    r = rep st (stk ++ cs) ms

    abbrev t : Step
    t = norm_step m s

    abbrev k : Ent
    k = (s, cs)

    low : length stk ≡ length (stk ++ cs) - hyp_count w s
    low = omega (arith, length-append stk cs)

    popped_is : popped w r t ≡ cs
    unfolding popped
    popped_is = drop_at stk cs (length (stk ++ cs) - hyp_count w s) low

    left_is : left w r t ≡ stk
    unfolding left
    left_is = take_at stk cs (length (stk ++ cs) - hyp_count w s) low

    normal_does : normal_step w r t ≡ rep (put k st) (stk ++ (at k st ∷ [])) ms
    unfolding normal_step at
    normal_does = rw (popped_is, left_is, lookup_is st (stk ++ cs) ms s cs, built_count_lem st (stk ++ cs) ms)
        (boole (found (is k) st)
        (λ h. rw (put_known k st h, leb_yes (suc (find (is k) st)) (length st) (found_lt (is k) st h)))
        (λ h. rw (put_new k st h, leb_no (suc (find (is k) st)) (length st) (omega (arith, find_none (is k) st h)), ents_more st k, chil_more st k)))

    has_room : Room (put k st) → no_room w rb rk r t ≡ false
    unfolding no_room at
    has_room room = rw (popped_is, lookup_is st (stk ++ cs) ms s cs, built_count_lem st (stk ++ cs) ms)
        (boole (found (is k) st)
        (λ h. rw (eqb_no (find (is k) st) (length st) (omega (arith, found_lt (is k) st h))))
        (λ h.
        let grown : length (put k st) ≡ suc (length st) = ap length (put_new k st h) ∙ omega (arith, length-append st (k ∷ [])) in
        let more : refs (put k st) ≡ refs st + length cs = ap refs (put_new k st h) ∙ refs_end st k in
        rw (
          eqb_yes (find (is k) st) (length st) (find_none (is k) st h),
          leb_no (suc rb) (length (ents 0 st) + 3) (omega (arith, ents_length 0 st)),
          leb_no (suc rk) (length (chil st) + length cs) (omega (arith, chil_length st)),
          leb_no (suc max_entries) (length st + 1) (omega arith),
          leb_no (suc max_child_refs) (length (chil st) + length cs) (omega (arith, chil_length st)),
        )))

    pub step_norm : s < statements w → (m ≡ 0) ⊎ (m ≡ length ms + 1) → Room (put k st)
        → one_step w rb rk r t ≡ going (rep (put k st) (stk ++ (at k st ∷ [])) (names_after m ms (at k st)))
    unfolding after_step malformed step_rules stack_short
    step_norm hs hm room =
        let mk : T (eqb m 0 || eqb m (length ms + 1)) = elim hm [ inl e ↦ or_left (eqb m 0) _ (yes_eqb e) | inr e ↦ or_right (eqb m 0) _ (yes_eqb e) ] in
        step_goes r t
        (not_no (all_of (step_rules w r t)) (all_of_each (step_rules w r t) (mk, (le→leb (suc s) (statements w) hs, (tt, (tt, tt))))))
        (leb_no (suc (length (stk ++ cs))) (hyp_count w s) (omega (arith, length-append stk cs)))
        (has_room room)
        ∙ ap going (ap (name_top t) normal_does ∙ name_top_lem t (put k st) stk ms (at k st))

  pub step_back : (j : ℕ) (st : List Ent) (stk ms : List ℕ) → j < length ms
      → one_step w rb rk (rep st stk ms) (back_step (suc j)) ≡ going (rep st (stk ++ (get_or ms j 0 ∷ [])) ms)
  unfolding after_step malformed step_rules stack_short no_room refer_step
  step_back j st stk ms l =
      let x = rep st stk ms in
      let t = back_step (suc j) in
      let ref : is_normal t ≡ false = eqb_no (suc j) 0 (omega arith) in
      let ok : T (pick (is_normal t) (ltb 0 (statements w)) (leb (suc j) (length ms) && eqb 0 0)) =
      rw (ref, leb_yes (suc j) (length ms) l) tt in
      step_goes x t
      (not_no (all_of (step_rules w x t)) (all_of_each (step_rules w x t) (tt, (ok, (tt, (tt, tt))))))
      (rw ref) (rw ref)
      ∙ ap going (rw ref (ap (λ (i : ℕ). name_top t (rep st (stk ++ (get_or ms i 0 ∷ [])) ms)) (omega arith) ∙ name_top_lem t st stk ms (get_or ms j 0)))

  module _ (stmt : ℕ → ℕ) (kids : ℕ → List ℕ) (n : ℕ) (below : (e : ℕ) → e < n → stmt e < statements w) (pol : ℕ → Bool) where
    -- the mark of a step names the entry just pushed
    name_mark : (e i : ℕ) (mk : List ℕ) (f : ℕ → ℕ) → f e ≡ i → names_after (mark_no pol e mk) (map f mk) i ≡ map f (mark pol e mk)
    name_mark e i mk f h =
        boole (pol e) (λ y. rw (y, eqb_no (suc (length mk)) 0 (omega arith), map_snoc f mk e, h)) (λ y. rw y)

    mark_ok : (e : ℕ) (mk : List ℕ) (f : ℕ → ℕ) → (mark_no pol e mk ≡ 0) ⊎ (mark_no pol e mk ≡ length (map f mk) + 1)
    mark_ok e mk f = boole (pol e) (λ y. rw y (inr (omega (arith, length-map mk f)))) (λ y. rw y (inl refl))

    know_mark : (P : ℕ → Type 0) (e : ℕ) (mk : List ℕ) → All P mk → P e → All P (mark pol e mk)
    know_mark P e mk a h = boole (pol e) (λ y. rw y (all_snoc P mk e a h)) (λ y. rw y a)

    abbrev Run : Forest → List ℕ → List Ent → Type 0
    Run t mk st = (stk : List ℕ) (ys : List Step) →
        all_steps w rb rk (packed pol stmt t mk ++ ys) (rep st stk (map (idx stmt kids st) mk))
        ≡ all_steps w rb rk ys (rep (intern (relabel stmt t) st) (stk ++ look (intern (relabel stmt t) st) (relabel stmt t)) (map (idx stmt kids (intern (relabel stmt t) st)) (marks pol t mk)))

    -- what the marks name is in the store, before and after
    abbrev Runs : Forest → Type 0
    Runs t = (mk : List ℕ) (st : List Ent) → All (Know stmt kids st) mk → Room (intern (relabel stmt t) st)
        → Run t mk st × All (Know stmt kids (intern (relabel stmt t) st)) (marks pol t mk)

    run_nil : Runs nil
    unfolding packed marks intern look
    run_nil mk st a room = (λ stk ys. rw (append-nil stk), a)

    run_back : (e : ℕ) (c b : Forest) → c ≡ sub kids e → Runs b → (mk : List ℕ) (st : List Ent) → All (Know stmt kids st) mk → marked e mk ≡ true
        → Room (intern (relabel stmt (node e c b)) st)
        → Run (node e c b) mk st × All (Know stmt kids (intern (relabel stmt (node e c b)) st)) (marks pol (node e c b) mk)
    unfolding all_steps and_then
    run_back e c b g rb' mk st a h room =
        let k = found_all (Know stmt kids st) e mk h a in
        let k0 : In st (relabel stmt c) = rw g k.0 in
        let k1 : found (is (stmt e, look st (relabel stmt c))) st ≡ true = rw g k.1 in
        let skip = intern_skip (stmt e) (relabel stmt c) (relabel stmt b) st k0 k1 in
        let more = rb' mk st a (rw skip at room) in
        rw (
          skip,
          look_skip (stmt e) (relabel stmt c) (relabel stmt b) st k0 k1,
          marks_back pol stmt e c b mk h,
          packed_back pol stmt e c b mk h,
        ) (
          λ stk ys.
              ap (λ (o : Turn). and_then o (λ y. all_steps w rb rk (packed pol stmt b mk ++ ys) y))
              (step_back (find (eqb e) mk) st stk (map (idx stmt kids st) mk) (rw (length-map mk (idx stmt kids st)) (found_lt (eqb e) mk h))
              ∙ ap (λ (j : ℕ). going (rep st (stk ++ (j ∷ [])) (map (idx stmt kids st) mk))) (found_at (idx stmt kids st) e mk h ∙ rw g))
              ∙ more.0 (stk ++ (at (stmt e, look st (relabel stmt c)) st ∷ [])) ys
              ∙ rw (append_assoc stk (at (stmt e, look st (relabel stmt c)) st ∷ [])),
          more.1,
        )

    run_open : (e : ℕ) (c b : Forest) → c ≡ sub kids e → hyp_count w (stmt e) ≡ width c → e < n → Runs c → Runs b → (mk : List ℕ) (st : List Ent) → All (Know stmt kids st) mk → marked e mk ≡ false
        → Room (intern (relabel stmt (node e c b)) st)
        → Run (node e c b) mk st × All (Know stmt kids (intern (relabel stmt (node e c b)) st)) (marks pol (node e c b) mk)
    unfolding intern all_steps and_then
    run_open e c b g wide l rc rb' mk st a h room =
        let c' = relabel stmt c in
        let b' = relabel stmt b in
        let st1 = intern c' st in
        let mk1 = marks pol c mk in
        let k : Ent = (stmt e, look st1 c') in
        let st2 = put k st1 in
        let room2 : Room st2 = room_less st2 (intern b' st2) (intern_grow b' st2) room in
        let rc1 = rc mk st a (room_less st1 st2 (put_grow k st1) room2) in
        let more = knows_more stmt kids st1 st2 (put_le k st1) mk1 rc1.1 in
        let ke = know_put stmt kids e c g st1 (intern_in c' st) in
        let mk2 = mark pol e mk1 in
        let rb1 = rb' mk2 st2 (know_mark (Know stmt kids st2) e mk1 more.0 ke.0) room in
        rw (look_node (stmt e) c' b' st, marks_open pol stmt e c b mk h, packed_open pol stmt e c b mk h) (
          λ stk ys.
              ap (λ (l : List Step). all_steps w rb rk l (rep st stk (map (idx stmt kids st) mk)))
              (append_assoc (packed pol stmt c mk) (norm_step (mark_no pol e mk1) (stmt e) ∷ packed pol stmt b mk2) ys)
              ∙ rc1.0 stk (norm_step (mark_no pol e mk1) (stmt e) ∷ (packed pol stmt b mk2 ++ ys))
              ∙ ap (λ (o : Turn). and_then o (λ y. all_steps w rb rk (packed pol stmt b mk2 ++ ys) y))
              (step_norm (mark_no pol e mk1) (stmt e) st1 stk (look st1 c') (map (idx stmt kids st1) mk1) (wide ∙ sym (look_length st1 stmt c))
              (below e l) (mark_ok e mk1 (idx stmt kids st1)) room2
              ∙ ap (λ (ms : List ℕ). going (rep st2 (stk ++ (at k st1 ∷ [])) ms))
              (ap (λ (ms : List ℕ). names_after (mark_no pol e mk1) ms (at k st1)) (sym more.1) ∙ name_mark e (at k st1) mk1 (idx stmt kids st2) ke.1))
              ∙ rb1.0 (stk ++ (at k st1 ∷ [])) ys
              ∙ rw (append_assoc stk (at k st1 ∷ [])),
          rb1.1,
        )

    pub run : (t : Forest) → Good (λ e. hyp_count w (stmt e)) kids t → Under n t → Runs t
    run nil g u mk st a room = run_nil mk st a room
    run (node e c b) g u mk st a room =
        let rc = run c g.2 u.1 in
        let rb' = run b g.3 u.2 in
        boole (marked e mk)
        (λ h. run_back e c b g.0 rb' mk st a h room)
        (λ h. run_open e c b g.0 g.1 u.0 rc rb' mk st a h room)
