-- What a good table gives the proof: a graph of n entries, each with as many children as its statement has hypotheses, below it.
use Rattle.std.specs.Prelude.{◌≡◌, Bool, true, List, [], T}
use Rattle.std.proofs.Math.Path.{refl, sym, ap, subst}
use Rattle.std.proofs.Common.{◌∙◌, arith}
use Rattle.std.proofs.Math.Logic.{inl, inr}
use Prim.Native.Nat.{ℕ, zero, suc, ◌≤◌, ◌<◌}
use Rattle.std.proofs.Math.Decide.{dec_lt}
use Rattle.std.proofs.Math.ListN.{length, get_or}
use Rattle.std.proofs.Math.Dec.{ltb, ltb→lt, leb→le}
use Rattle.laws.specs.Tools.{pick, range, member, sum_below, count}
use Rattle.defs.specs.Table.{statements, entries, child_refs, qed, hyp_count, child_count}
use Rattle.defs.specs.Check.{table_refusal}
use Rattle.defs.specs.Graph.{Graph, graph_in, graph_of}
use Rattle.defs.specs.Counts.{parent_count, parents, distances, reachable, unreached, Way, IsDistance}
use Rattle.defs.specs.Laws.{good, Falls}
use Rattle.defs.specs.Checked.{header, children_sum, entry_ok, falls, qed_below, distances_right}
use Rattle.defs.specs.DistanceLaws.{way_below, way_drop}
use Rattle.laws.specs.Lists.{T_of, all_member, range_length, range_at, leb_yes, leb_no, All, all_below_lem, get_d_map}
use Rattle.laws.specs.Sums.{sum_eq, member_count, count_member}

-- ---- the graph of a good table

module _ (w b : List ℕ) (ok : table_refusal w b ≡ 0) where
  abbrev pub n : ℕ
  n = entries w

  abbrev pub g : Graph
  g = graph_of w

  -- the children of an entry of the table; none past its entries
  unfoldable pub kids : ℕ → List ℕ
  kids e = pick (ltb e n) (g.kids e) []

  pub agree : (e : ℕ) → e < n → g.kids e ≡ kids e
  unfolding kids
  agree e l = rw (leb_yes (suc e) n l)

  pub low : (e : ℕ) → All (λ k. k < e) (kids e)
  unfolding kids Falls
  low e =
      elim (dec_lt e n) [
        | yes l ↦ rw (leb_yes (suc e) n l) (all_below_lem e (g.kids e) (falls w b ok e l))
        | no l ↦ rw (leb_no (suc e) n (omega arith)) tt
      ]

  pub fit : (e : ℕ) → e < n → hyp_count w (g.stmt e) ≡ length (kids e)
  unfolding graph_of graph_in
  fit e l = let h = entry_ok w b ok e l in sym h.as_many ∙ sym h.have_length ∙ ap length (agree e l)

  pub stmt_below : (e : ℕ) → e < n → g.stmt e < statements w
  unfolding graph_of graph_in
  stmt_below e l = (entry_ok w b ok e l).stmt_below

  pub kids_sum : sum_below (λ x. length (kids x)) n ≡ child_refs w
  unfolding graph_of graph_in
  kids_sum = sum_eq (λ x. length (kids x)) (child_count w) n (λ x l. sym (ap length (agree x l)) ∙ (entry_ok w b ok x l).have_length) ∙ children_sum w b ok

  -- ---- parents

  pub parents_at : (e : ℕ) → e < n → get_or (parents g n) e 0 ≡ sum_below (λ p. count e (kids p)) n
  unfolding parents parent_count
  parents_at e l =
      get_d_map (λ x. parent_count g n x) (range 0 n) e (rw (range_length 0 n) l)
      ∙ ap (parent_count g n) (range_at 0 n e 0 l ∙ omega arith)
      ∙ sum_eq (λ p. count e (g.kids p)) (λ p. count e (kids p)) n (λ p m. ap (count e) (agree p m))

  -- ---- what is reachable

  edges : (p c : ℕ) → p < n → T (member c (g.kids p)) → c < p
  unfolding Falls
  edges p c hp m = ltb→lt c p (all_member (λ x. ltb x p) (g.kids p) c (falls w b ok p hp) m)

  abbrev pub reach : ℕ → Bool
  reach = reachable g n (qed w)

  abbrev q<n : qed w < n
  q<n = qed_below w b ok

  way_reach : (k x : ℕ) → Way g k (qed w) x → reach x ≡ true
  unfolding reachable IsDistance
  way_reach k x way =
      let d = get_or (distances g n (qed w)) x unreached in
      let most = (header w (good w b ok).ok1).n_most in
      leb_yes (suc d) unreached
      (elim (distances_right w b ok x (way_below g n (qed w) edges q<n k x way)) [
        | inl p ↦ omega (arith, way_drop g n (qed w) edges q<n d x p.0, q<n)
        | inr p ↦ absurd (p.1 k way)
      ])

  reach_way : (x : ℕ) → x < n → reach x ≡ true → (k : ℕ) × Way g k (qed w) x
  unfolding reachable IsDistance
  reach_way x l h =
      elim (distances_right w b ok x l) [
        | inl p ↦ (_, p.0)
        | inr p ↦ absurd (omega (arith, p.0, leb→le (suc (get_or (distances g n (qed w)) x unreached)) unreached (T_of h)))
      ]

  pub reach_root : reach (qed w) ≡ true
  unfolding Way
  reach_root = way_reach 0 (qed w) refl

  pub reach_down : (p c : ℕ) → reach p ≡ true → 1 ≤ count c (kids p) → reach c ≡ true
  unfolding Way kids
  reach_down p c h m =
      elim (dec_lt p n) [
        | yes l ↦ (let way = reach_way p l h in way_reach (suc way.0) c (p, way.1, rw (agree p l) (count_member c (kids p) m)))
        | no l ↦ absurd (omega (arith, ap (λ (t : Bool). count c (pick t (g.kids p) [])) (leb_no (suc p) n (omega arith))))
      ]

  -- nothing else is reachable: what holds of QED and goes over to children holds of all that is
  pub reach_least : (M : ℕ → Type 0) → M (qed w) → ((p c : ℕ) → M p → 1 ≤ count c (kids p) → M c) → (x : ℕ) → x < n → reach x ≡ true → M x
  unfolding Way
  reach_least M root down x l h = let way = reach_way x l h in go way.0 x way.1
    where
      go : (k x : ℕ) → Way g k (qed w) x → M x
      go zero x e = subst M e root
      go (suc k) x (way) = down way.0 x (go k way.0 way.1) (member_count x (kids way.0) (rw (← (agree way.0 (way_below g n (qed w) edges q<n k way.0 way.1))) way.2))
