-- The five styles and their texts, as bytes.
use Rattle.std.specs.Prelude.{ℕ, ◌-◌, Bool, false, ◌||◌, List, [], ◌∷◌, ◌++◌, map, get_or, eqb, ltb}
use Rattle.laws.specs.Tools.{pick}
use Rattle.defs.specs.Bytes.{dollar, dot, open_paren, close_paren, colon, equals_sign}
use Rattle.defs.specs.Table.{entries, theorem, qed, statement_words, label_in, label, hyps, mandatory}
use Rattle.defs.specs.Graph.{graph_of}
use Rattle.defs.specs.Steps.{Step, is_normal, packed_steps, normal_steps}
use Rattle.defs.specs.Names.{name}
use Rattle.defs.specs.Letters.{letters_of}
use Rattle.defs.specs.Order.{label_list}
use Rattle.defs.specs.Layout.{Layout, Line, begin, put_word, put_words, put_letters, line_room}

-- 0 compressed, 1 normal, 2 packed, 3 explicit, 4 packed explicit
abbrev pub is_compressed : ℕ → Bool
is_compressed style = eqb style 0

abbrev pub is_packed : ℕ → Bool
is_packed style = eqb style 0 || eqb style 2 || eqb style 4

abbrev pub is_explicit : ℕ → Bool
is_explicit style = eqb style 3 || eqb style 4

-- 9: style not 0 to 4
abbrev pub bad9 : ℕ → Bool
bad9 style = ltb 4 style

-- a table's packed list and its normal list
unfoldable pub packed_of : List ℕ → Bool → List Step
packed_of w explicit = packed_steps (graph_of w) (entries w) (qed w) explicit

unfoldable pub normal_of : List ℕ → Bool → List Step
normal_of w explicit = normal_steps (graph_of w) (qed w) explicit

-- `hyp=` in an explicit list: the label of the hypothesis that the step stands for; at the root, the theorem's label
unfoldable pub hyp_prefix : List ℕ → List ℕ → Bool → Step → List ℕ
hyp_prefix w b explicit t =
    pick explicit (label w b (pick (eqb t.parent 0) (theorem w) (get_or (hyps w (t.parent - 1)) t.index 0)) ++ equals_sign ∷ []) []

-- word: label; marked, `name:label`; reference, name. `hyp=` stands before the label or referred name, after any mark and colon
unfoldable pub step_word : List ℕ → List ℕ → Bool → Step → List ℕ
step_word w b explicit t =
    pick (is_normal t)
    (pick (eqb t.mark 0) [] (name w b t.mark ++ colon ∷ []) ++ hyp_prefix w b explicit t ++ label w b t.stmt)
    (hyp_prefix w b explicit t ++ name w b t.ref)

-- the last word, `$.`
abbrev pub end_word : List ℕ
end_word = dollar ∷ dot ∷ []

-- no newline after it
unfoldable pub close : Layout → Line → List ℕ
close l s = (put_word l s end_word).text

-- styles 1 to 4: the words of the steps
unfoldable pub steps_text : List ℕ → List ℕ → Layout → Bool → List Step → List ℕ
steps_text w b l explicit steps = close l (put_words l (begin l) (map (step_word w b explicit) steps))

-- the label list and the letters of a table
unfoldable pub labels_of : List ℕ → Layout → List ℕ
labels_of w l = label_list w (line_room l) (packed_of w false)

unfoldable pub letters_for : List ℕ → Layout → List ℕ
letters_for w l = letters_of (mandatory w) (labels_of w l) (packed_of w false)

-- style 0: `(`, labels, `)`, then letters cut; over a statement section with its label bytes, and of a table
unfoldable pub compressed_in : (ss b : List ℕ) → Layout → (order letters : List ℕ) → List ℕ
compressed_in ss b l order letters =
    let open-paren : Line = put_word l (begin l) (open_paren ∷ []) in
    let labels : Line = put_words l open-paren (map (label_in ss b) order) in
    let close-paren : Line = put_word l labels (close_paren ∷ []) in
    close l (put_letters l close-paren letters)

abbrev pub compressed_text : (w b : List ℕ) → Layout → (order letters : List ℕ) → List ℕ
compressed_text w = compressed_in (statement_words w)

-- the text of a table in a style
unfoldable pub text_of : (w b : List ℕ) (style : ℕ) → Layout → List ℕ
text_of w b style l =
    let compressed : List ℕ = compressed_text w b l (labels_of w l) (letters_for w l) in
    let packed : List ℕ = steps_text w b l (is_explicit style) (packed_of w (is_explicit style)) in
    let normal : List ℕ = steps_text w b l (is_explicit style) (normal_of w (is_explicit style)) in
    pick (is_compressed style) compressed (pick (is_packed style) packed normal)
