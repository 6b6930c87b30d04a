-- Machines whose states are numbers, and which start in state 0 and read from the left.
-- Assumes nothing.
use mathlib.Core.Path.{◌≡◌, refl, sym, ap, ◌∙◌}
use mathlib.Core.Bool.{Bool, true}
use mathlib.Core.List.{List, [], ◌∷◌}
use Prim.Native.Nat.{ℕ, zero, suc}
use lib.Dec.{T, eqb, eqb_refl, eqb→eq}
use lib.ListN.{get_or}
use Rattle.grammar.specs.Rule.{Tree, yield}
use Rattle.module_tree.specs.Marked.{Marked, unmarked, leaves, marks}
use Rattle.module_tree.proofs.Flow.{has, from_left, reaches, arrives}
use Rattle.module_tree.proofs.Machine.{after, outputs, passes, reads_left}

-- the state that stands for all, and the dead one
abbrev every_number : ℕ
every_number = 99

abbrev pub dead_number : ℕ
dead_number = 5

-- the machine is in one of these states
abbrev pub among : ℕ → List ℕ → Bool
among s allowed = has eqb every_number s allowed

-- ---- a machine that goes by classes and marks
abbrev pub ends_among : (move : ℕ → ℕ → ℕ → ℕ) (family : ℕ) → Marked → List ℕ → Bool
ends_among move family m allowed = reaches eqb every_number move family true m 0 (0 ∷ []) allowed

pub ended_among : (move : ℕ → ℕ → ℕ → ℕ) (family : ℕ) (m : Marked) (allowed : List ℕ) → T (ends_among move family m allowed)
    → (t : Tree (unmarked m)) → T (among (from_left move 0 (leaves family 0 m t)) allowed)
ended_among move family m allowed p t = arrives eqb every_number eqb_refl eqb→eq move family true m 0 (0 ∷ []) allowed p t 0 tt

-- ---- a machine that checks
abbrev pub reads : (next out : ℕ → ℕ → ℕ) (family : ℕ) → List ℕ → Marked → Bool
reads next out family allowed m = passes next out eqb every_number dead_number eqb_refl eqb→eq true family 0 m (0 ∷ []) allowed

module _ (next out : ℕ → ℕ → ℕ) (family : ℕ) (allowed : List ℕ) (m : Marked) (p : T (reads next out family allowed m))
    (t : Tree (unmarked m)) where
  pub marks_are : outputs next out 0 (yield (unmarked m) t) ≡ marks family m t
  marks_are = (reads_left next out eqb every_number dead_number eqb_refl eqb→eq family 0 m (0 ∷ []) allowed t 0 tt p).0

  pub ends_in : T (among (after next out 0 (yield (unmarked m) t)) allowed)
  ends_in = (reads_left next out eqb every_number dead_number eqb_refl eqb→eq family 0 m (0 ∷ []) allowed t 0 tt p).1

-- ---- a machine of one state that puts out nothing: no token has a mark
abbrev pub stays : ℕ → ℕ → ℕ
stays s c = s

abbrev pub no_output : ℕ → ℕ → ℕ
no_output s c = 0

abbrev pub absent : (family : ℕ) → Marked → Bool
absent family m = reads stays no_output family (0 ∷ []) m

pub unmarked_part : (family : ℕ) (m : Marked) → T (absent family m) → (t : Tree (unmarked m)) (i : ℕ) → get_or (marks family m t) i 0 ≡ 0
unmarked_part family m p t i =
    ap (λ l. get_or l i 0) (sym (marks_are stays no_output family (0 ∷ []) m p t)) ∙ go (yield (unmarked m) t) i
  where
    go : (xs : List ℕ) (i : ℕ) → get_or (outputs stays no_output 0 xs) i 0 ≡ 0
    go [] i = refl
    go (x ∷ xs) zero = refl
    go (x ∷ xs) (suc i) = go xs i
