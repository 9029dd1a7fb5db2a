-- No line of a compressed text exceeds the width, counting the first position on line one.
use Rattle.std.specs.Prelude.{◌⊎◌, ◌≡◌, refl, false, take, drop, T, eqb}
use Rattle.std.proofs.Math.Logic.{inl, inr}
use Rattle.std.proofs.Math.Seq.{length-take-le}
use Rattle.std.proofs.Math.Path.{ap}
use Rattle.std.proofs.Common.{◌∙◌, subst, eqb→eq, leb→le, ltb→lt}
use Prim.Native.Nat.{ℕ, zero, suc, ◌+◌, ◌-◌, ◌*◌, ◌≤◌, ◌<◌, max}
use native.Mathlib.Omega.{arith}
use Rattle.std.proofs.Math.Decide.{dec_lt}
use mathlib.Core.List.{List, [], ◌∷◌, ◌++◌, map}
use Rattle.std.proofs.Math.ListN.{length, length-drop, length-replicate}
use Rattle.std.proofs.Math.Facts.{and_yes}
use Rattle.defs.specs.Bytes.{space, newline, open_paren, close_paren}
use Rattle.laws.specs.Tools.{pick, all, all_of}
use Rattle.defs.specs.Table.{statements, label_length, label}
use Rattle.defs.specs.Check.{table_refusal, label_byte}
use Rattle.defs.specs.Layout.{Layout, layout_rules, bad8, Line, spaces, begin, put_word, put_words, room_at, cut_within, put_letters, widest}
use Rattle.defs.specs.Text.{end_word, close, labels_of, letters_for, compressed_in, text_of}
use Rattle.defs.specs.Refusals.{bad12}
use Rattle.laws.specs.Lists.{all_take, all_drop, all_image, boole, T_of, clash, passed, All, all_map, eqb_no, eqb_yes, leb_yes, leb_no}
use Rattle.defs.specs.Checked.{statement_ok}
use Rattle.defs.specs.Ranges.{Letter}
use Rattle.defs.proofs.Ranges.{all_letters_lem, labels_listed}
use Rattle.laws.specs.Below.{each}
use Rattle.defs.specs.LineLaws.{LinesFit}

-- ---- columns

-- the column after a text that begins in column `at`
column : ℕ → List ℕ → ℕ
column at [] = at
column at (x ∷ xs) = pick (eqb x newline) (column 0 xs) (column (suc at) xs)

column_append : (at : ℕ) (xs ys : List ℕ) → column at (xs ++ ys) ≡ column (column at xs) ys
unfolding column
column_append at [] ys = refl
column_append at (x ∷ xs) ys = boole (eqb x newline) (λ h. rw h (column_append 0 xs ys)) (λ h. rw h (column_append (suc at) xs ys))

widest_append : (m at : ℕ) (xs ys : List ℕ) → widest at xs ≤ m → widest (column at xs) ys ≤ m → widest at (xs ++ ys) ≤ m
unfolding column widest
widest_append m at [] ys a b = b
widest_append m at (x ∷ xs) ys a b =
    boole (eqb x newline)
    (λ h. let p = rw h at a in rw h (omega (arith, widest_append m 0 xs ys (omega arith) (rw h at b))))
    (λ h. rw h (widest_append m (suc at) xs ys (rw h at a) (rw h at b)))

-- a word without a newline
abbrev Plain : List ℕ → Type 0
Plain xs = All (λ x. ¬ (x ≡ newline)) xs

plain_column : (at : ℕ) (xs : List ℕ) → Plain xs → column at xs ≡ at + length xs
unfolding column
plain_column at [] a = omega arith
plain_column at (x ∷ xs) a = rw (eqb_no x newline a.0) (plain_column (suc at) xs a.1 ∙ omega arith)

plain_widest : (at : ℕ) (xs : List ℕ) → Plain xs → widest at xs ≡ at + length xs
unfolding widest
plain_widest at [] a = omega arith
plain_widest at (x ∷ xs) a = rw (eqb_no x newline a.0) (plain_widest (suc at) xs a.1 ∙ omega arith)

plain_spaces : (k : ℕ) → Plain (spaces k)
plain_spaces zero = tt
plain_spaces (suc k) = (λ e. omega arith, plain_spaces k)

after_newline : (at k : ℕ) → column at (newline ∷ spaces k) ≡ k
unfolding column
after_newline at k = plain_column 0 (spaces k) (plain_spaces k) ∙ omega (arith, length-replicate k space)

newline_widest : (at k : ℕ) → widest at (newline ∷ spaces k) ≡ max at k
unfolding widest
newline_widest at k = ap (max at) (plain_widest 0 (spaces k) (plain_spaces k) ∙ omega (arith, length-replicate k space))

-- ---- words

module _ (l : Layout) (narrow : l.indent + 2 ≤ l.width) where
  -- the position is the column, and no line is too long
  record Held (s : Line) : Type 0 where
    here : column l.first s.text ≡ s.at
    low : s.at ≤ l.width
    wide : widest l.first s.text ≤ l.width

  -- a word that fits on a line of its own, or on this one
  put_held : (s : Line) (word : List ℕ) → Plain word → (l.width ≤ s.at + length word → l.indent + length word ≤ l.width)
      → Held s → Held (put_word l s word)
  unfolding put_word
  put_held s word plain fits h =
      let sp : Plain (space ∷ word) = (λ e. omega arith, plain) in
      let ind : List ℕ = newline ∷ spaces l.indent in
      let start : ℕ = column l.first s.text in
      let next : column l.first (s.text ++ ind) ≡ l.indent = column_append l.first s.text ind ∙ after_newline start l.indent in
      elim (dec_lt (s.at + length word) l.width) [
        | yes y ↦ rw (leb_yes (suc (s.at + length word)) l.width y) (record {
          here = column_append l.first s.text (space ∷ word) ∙ ap (λ (c : ℕ). column c (space ∷ word)) h.here ∙ plain_column s.at (space ∷ word) sp ∙ omega arith;
          low = omega arith;
          wide = widest_append l.width l.first s.text (space ∷ word) h.wide (rw (h.here, plain_widest s.at (space ∷ word) sp) (omega arith));
        })
        | no y ↦ rw (leb_no (suc (s.at + length word)) l.width (omega arith)) (record {
          here = column_append l.first (s.text ++ ind) word ∙ ap (λ (c : ℕ). column c word) next ∙ plain_column l.indent word plain;
          low = omega (arith, fits (omega arith));
          wide = widest_append l.width l.first (s.text ++ ind) word
              (widest_append l.width l.first s.text ind h.wide (omega (arith, newline_widest start l.indent, h.here, h.low)))
              (rw (next, plain_widest l.indent word plain) (omega (arith, fits (omega arith))));
        })
      ]

  begin_held : l.first < l.indent → Held (begin l)
  unfolding begin
  begin_held f =
      let k : ℕ = l.indent - 1 - l.first in
      let n = length-replicate k space in
      record {
        here = plain_column l.first (spaces k) (plain_spaces k) ∙ omega (arith, n);
        low = omega arith;
        wide = omega (arith, plain_widest l.first (spaces k) (plain_spaces k), n);
      }

  words_held : (s : Line) (words : List (List ℕ)) → All (λ x. Plain x × (l.indent + length x ≤ l.width)) words → Held s → Held (put_words l s words)
  unfolding put_words
  words_held s [] a h = h
  words_held s (x ∷ xs) a h = words_held (put_word l s x) xs a.1 (put_held s x a.0.0 (λ t. a.0.1) h)

  -- ---- letters

  -- what the room is
  room_is : (p : ℕ) → p ≤ l.width → ((p ≡ l.width) × (room_at l p ≡ l.width - l.indent)) ⊎ ((p < l.width) × (room_at l p ≡ l.width - p - 1))
  unfolding room_at
  room_is p low =
      boole (eqb p l.width)
      (λ y. inl (eqb→eq p l.width (T_of y), rw y))
      (λ y. inr (
        elim (dec_lt p l.width) [
          | yes m ↦ m
          | no m ↦ clash (eqb p l.width) (eqb_yes p l.width (omega arith)) y
        ],
        rw y,
      ))

  -- a word no longer than the room
  room_held : (s : Line) (word : List ℕ) → Plain word → Held s → length word ≤ room_at l s.at → Held (put_word l s word)
  room_held s word plain h few =
      put_held s word plain
      (λ t. elim (room_is s.at h.low) [
        | inl r ↦ omega (arith, r.1)
        | inr r ↦ absurd (omega (arith, r.0, r.1))
      ]) h

  put_same : (s : Line) (word : List ℕ) → s.at + length word < l.width → (put_word l s word).at ≡ s.at + (length word + 1)
  unfolding put_word
  put_same s word y = rw (leb_yes (suc (s.at + length word)) l.width y)

  put_next : (s : Line) (word : List ℕ) → l.width ≤ s.at + length word → (put_word l s word).at ≡ l.indent + length word
  unfolding put_word
  put_next s word y = rw (leb_no (suc (s.at + length word)) l.width (omega arith))

  -- a word as long as the room ends at the width
  room_end : (s : Line) (word : List ℕ) → s.at ≤ l.width → length word ≡ room_at l s.at → (put_word l s word).at ≡ l.width
  room_end s word low e =
      elim (room_is s.at low) [
        | inl r ↦ put_next s word (omega (arith, r.0)) ∙ omega (arith, r.1)
        | inr r ↦ put_same s word (omega (arith, r.0, r.1)) ∙ omega (arith, r.0, r.1)
      ]

  -- one turn: the letters that are left fit, or the room is filled to the line's end
  turn_held : (turns : ℕ) (s : Line) (xs : List ℕ) → Plain xs → Held s
      → ((t : Line) (ys : List ℕ) → Plain ys → Held t → t.at ≡ l.width → 1 ≤ length xs → length ys + room_at l s.at ≡ length xs → Held (cut_within l turns t ys))
      → Held (cut_within l (suc turns) s xs)
  unfolding cut_within
  turn_held turns s xs plain h next =
      let room = room_at l s.at in
      elim (dec_lt room (length xs)) [
        | yes y ↦
            let n : length (take room xs) ≡ room = length-take-le room xs (omega arith) in
            rw (leb_yes (suc room) (length xs) y)
            (next _ (drop room xs) (all_drop _ room xs plain) (room_held s (take room xs) (all_take _ room xs plain) h (omega arith))
            (room_end s (take room xs) h.low n) (omega arith) (omega (arith, length-drop room xs)))
        | no y ↦ rw (leb_no (suc room) (length xs) (omega arith)) (room_held s xs plain h (omega arith))
      ]

  -- from the line's end each turn takes two letters or more
  end_held : (turns : ℕ) (s : Line) (xs : List ℕ) → Plain xs → Held s → s.at ≡ l.width → length xs ≤ turns → Held (cut_within l turns s xs)
  end_held zero s xs plain h end few = unfold cut_within in put_held s xs plain (λ t. omega arith) h
  end_held (suc turns) s xs plain h end few =
      let two : 2 ≤ room_at l s.at = elim (room_is s.at h.low) [
        | inl r ↦ omega (arith, r.1)
        | inr r ↦ absurd (omega (arith, r.0))
      ] in
      turn_held turns s xs plain h (λ t ys p k e some left. end_held turns t ys p k e (omega arith))

  -- so two turns for each letter suffice: only the first may take none
  cut_held : (turns : ℕ) (s : Line) (xs : List ℕ) → Plain xs → Held s → 2 * length xs ≤ turns → Held (cut_within l turns s xs)
  cut_held zero s xs plain h few = unfold cut_within in put_held s xs plain (λ t. omega arith) h
  cut_held (suc turns) s xs plain h few = turn_held turns s xs plain h (λ t ys p k e some left. end_held turns t ys p k e (omega arith))

-- ---- the text

label_plain : (x : ℕ) → T (label_byte x) → ¬ (x ≡ newline)
unfolding label_byte
label_plain x t e = subst (λ (y : ℕ). T (label_byte y)) e t

labels_plain : (xs : List ℕ) → T (all label_byte xs) → Plain xs
unfolding all
labels_plain [] t = tt
labels_plain (x ∷ xs) t = let p = and_yes (label_byte x) (all label_byte xs) t in (label_plain x p.0, labels_plain xs p.1)

-- a label of the list is plain and fits on a line of its own
labels_fit : (w b : List ℕ) (l : Layout) → table_refusal w b ≡ 0 → l.indent + 2 ≤ l.width → bad12 w l ≡ false
    → All (λ x. Plain x × (l.indent + length x ≤ l.width)) (map (label w b) (labels_of w l))
labels_fit w b l ok narrow ok12 =
    all_image _ (label w b) (labels_of w l)
    (all_map (λ k. (k < statements w) × (label_length w k ≤ l.width - l.indent)) _
    (λ k h. let s = statement_ok w b ok k h.0 in (labels_plain (label w b k) s.label_bytes, omega (arith, h.1, s.label_length_lem)))
    (labels_of w l) (labels_listed w b l ok ok12))

pub lines_fit : LinesFit
unfolding LinesFit bad8 layout_rules text_of compressed_in close letters_for put_letters
lines_fit w b l ok ok8 ok12 =
    let p = each (layout_rules l) (passed (all_of (layout_rules l)) ok8) in
    let narrow : l.indent + 2 ≤ l.width = leb→le _ _ p.1.1.0 in
    let s0 = begin_held l narrow (ltb→lt _ _ p.1.1.1.0) in
    let s1 = put_held l narrow _ (open_paren ∷ []) (λ e. omega arith, tt) (λ t. omega arith) s0 in
    let s2 = words_held l narrow _ (map (label w b) (labels_of w l)) (labels_fit w b l ok narrow ok12) s1 in
    let s3 = put_held l narrow _ (close_paren ∷ []) (λ e. omega arith, tt) (λ t. omega arith) s2 in
    let letters = letters_for w l in
    let s4 = cut_held l narrow (2 * length letters) _ letters (all_map Letter _ (λ x h e. omega arith) letters (all_letters_lem _ _ _)) s3 (omega arith) in
    (put_held l narrow _ end_word (λ e. omega arith, (λ e. omega arith, tt)) (λ t. omega arith) s4).wide
