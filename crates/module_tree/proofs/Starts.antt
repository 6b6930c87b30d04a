-- Where definitions start, by the landmarks: read from the right, what stands behind a token is shown by ten answers; with the token's
-- class they say whether a definition of which kind starts there, or END stands there. In a tree these are the marks of its tokens.
-- Assumes nothing.
use mathlib.Core.Path.{◌≡◌, refl, sym, ap, ◌∙◌}
use mathlib.Core.Bool.{Bool, false, cond, ◌&&◌, ◌||◌}
use mathlib.Core.List.{List, [], ◌∷◌}
use Prim.Native.Nat.{ℕ, zero, suc, ◌<◌}
use native.Mathlib.Nat.{suc-add}
use native.Mathlib.Omega.{arith}
use lib.Dec.{T, eqb}
use lib.ListN.{length, get_or}
use Rattle.grammar.specs.Rule.{Tree, yield}
use Rattle.terminal.specs.Terminal.{Upper, assign, DEFINITIONS, END, IDENTIFIER, MODULE-IDENTITY, NOTIFICATION-TYPE, OBJECT, OBJECT-IDENTITY, OBJECT-TYPE, TEXTUAL-CONVENTION}
use Rattle.definition.specs.Landmark.{class_at, is_lower, is_defining, before_object_identifier, begins, kind_at, identity, plain, object_identity, object, convention, sequence_type, notification}
use Rattle.module_tree.specs.Marked.{unmarked, marks}
use Rattle.module_tree.specs.Grammar.{start, the_end, module_tree}
use Rattle.module_tree.proofs.Answers.{same_answers, answers_self, answers_equal, answer, every_state, dead_state}
use Rattle.module_tree.proofs.Machine.{before, outputs_before, passes, reads_right}

-- what stands at token i: the kind of the definition that starts there, or END, or 0
abbrev pub start_at : List ℕ → ℕ → ℕ
start_at cs i = cond (begins cs i) (kind_at cs i) (cond (eqb (class_at cs i) END) the_end 0)

-- what the tokens of a list show to the token before them
abbrev shown : List ℕ → List Bool
shown l =
    eqb (get_or l 0 0) MODULE-IDENTITY
    ∷ eqb (get_or l 0 0) OBJECT-IDENTITY
    ∷ eqb (get_or l 0 0) OBJECT-TYPE
    ∷ eqb (get_or l 0 0) NOTIFICATION-TYPE
    ∷ eqb (get_or l 0 0) OBJECT
    ∷ eqb (get_or l 0 0) assign
    ∷ eqb (get_or l 1 0) assign
    ∷ eqb (get_or l 2 0) assign
    ∷ eqb (get_or l 0 0) IDENTIFIER
    ∷ eqb (get_or l 1 0) IDENTIFIER
    ∷ eqb (get_or l 0 0) TEXTUAL-CONVENTION
    ∷ eqb (get_or l 1 0) TEXTUAL-CONVENTION
    ∷ []

-- one token more
abbrev next : List Bool → ℕ → List Bool
next s c =
    eqb c MODULE-IDENTITY
    ∷ eqb c OBJECT-IDENTITY
    ∷ eqb c OBJECT-TYPE
    ∷ eqb c NOTIFICATION-TYPE
    ∷ eqb c OBJECT
    ∷ eqb c assign
    ∷ answer s 5
    ∷ answer s 6
    ∷ eqb c IDENTIFIER
    ∷ answer s 8
    ∷ eqb c TEXTUAL-CONVENTION
    ∷ answer s 10
    ∷ []

-- the definition of `begins` and of `kind_at`, by what is shown
abbrev shows_start : List Bool → ℕ → Bool
shows_start s c =
    (is_lower c && ((answer s 0 || answer s 1 || answer s 2 || answer s 3) || (answer s 4 && answer s 9 && answer s 7)))
    || (eqb c Upper && answer s 5)

abbrev shows_kind : List Bool → ℕ
shows_kind s =
    cond (answer s 0) identity
    (cond (answer s 4) plain
    (cond (answer s 1) object_identity
    (cond (answer s 2) object
    (cond (answer s 3) notification
    (cond (answer s 11) convention sequence_type)))))

abbrev out : List Bool → ℕ → ℕ
out s c = cond (shows_start s c) (shows_kind s) (cond (eqb c END) the_end 0)

-- what stands at the first token of a list
start_first : (c : ℕ) (l : List ℕ) → out (shown l) c ≡ start_at (c ∷ l) 0
unfolding begins is_defining before_object_identifier kind_at
start_first c l = refl

-- and at one further on
start_later : (c : ℕ) (l : List ℕ) (i : ℕ) → start_at (c ∷ l) (suc i) ≡ start_at l i
unfolding begins is_defining before_object_identifier kind_at
start_later c l i = simp suc-add

shown_before : (l : List ℕ) → before next out (shown []) l ≡ shown l
shown_before [] = refl
shown_before (c ∷ l) = ap (λ s. next s c) (shown_before l)

output_at : (cs : List ℕ) (i : ℕ) → i < length cs → get_or (outputs_before next out (shown []) cs) i 0 ≡ start_at cs i
output_at [] i h = absurd (omega arith)
output_at (c ∷ l) zero h = ap (λ s. out s c) (shown_before l) ∙ start_first c l
output_at (c ∷ l) (suc i) h = output_at l i (omega arith) ∙ sym (start_later c l i)

-- the test of the whole grammar
tested : T (passes next out same_answers every_state dead_state answers_self answers_equal false start 0 module_tree (shown [] ∷ []) (shown (Upper ∷ DEFINITIONS ∷ assign ∷ []) ∷ []))
unfolding module_tree
tested = tt

-- what the landmarks say of the tokens is what is marked
pub starts_marked : (t : Tree (unmarked module_tree)) (i : ℕ) → i < length (yield (unmarked module_tree) t)
    → start_at (yield (unmarked module_tree) t) i ≡ get_or (marks start module_tree t) i 0
starts_marked t i h =
    sym (output_at (yield (unmarked module_tree) t) i h)
    ∙ ap (λ l. get_or l i 0) (reads_right next out same_answers every_state dead_state answers_self answers_equal start 0 module_tree
    (shown [] ∷ []) (shown (Upper ∷ DEFINITIONS ∷ assign ∷ []) ∷ []) t (shown []) tt tested)
