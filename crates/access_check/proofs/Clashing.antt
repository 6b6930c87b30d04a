-- A clash by the SEQUENCE type of a column's row: lists that have no read-create column are marked, and walked once.
-- Assumes nothing.
use mathlib.Core.Path.{◌≡◌, ap, ◌∙◌}
use mathlib.Core.Bool.{Bool, true, false, cond}
use mathlib.Core.List.{List}
use Prim.Native.Nat.{ℕ, ◌<◌}
use native.Mathlib.Decide.{ℕ_discrete}
use native.Mathlib.Omega.{arith}
use lib.ListN.{length, get_or, set, replicate, length-set, length-replicate, get_or-replicate}
use lib.Seq.{get_or-set_other}
use Rattle.index.proofs.Search.{answers}
use Rattle.module_table.specs.Definition.{absent, entry}
use Rattle.module_table.specs.declared.Definition.{Definition}
use Rattle.object_tree.specs.Words.{numbered}
use Rattle.sequence_list.specs.Named.{type_of}
use Rattle.sequence_list.specs.Held.{places}
use Rattle.sequence_list.proofs.Asking.{any_empty}
use Rattle.sequence_list.proofs.Marking.{type_few}
use Rattle.access_check.specs.Access.{has_access, creates, is_written_column, clashes}
use Rattle.access_check.specs.Found.{written_type}

-- no type names nothing
no_type : (ds : List Definition) (values : List ℕ) → creates ds values 0 ≡ false
unfolding creates absent
no_type ds values = any_empty (has_access ds values 5) 0 0 (omega arith)

-- a definition clashes where the type of its row names a read-create column
pub clash_by_type : (ds : List Definition) (values : List ℕ) (k : ℕ) → creates ds values (written_type ds k) ≡ clashes ds values k
unfolding written_type clashes
clash_by_type ds values k =
    answers (is_written_column ds (entry ds k))
    (λ e. rw e)
    (λ e. rw e (no_type ds values))

pub written_few : (ds : List Definition) (k : ℕ) → written_type ds k < places
unfolding written_type
written_few ds k = go (is_written_column ds (entry ds k))
  where
    go : (b : Bool) → cond b (type_of (numbered ds (entry ds k).parent)) 0 < places
    go true = type_few (numbered ds (entry ds k).parent)
    go false = omega arith

-- the marked types name no read-create column
pub record Clear (ds : List Definition) (values clear : List ℕ) : Type 0 where
  pub long : length clear ≡ places
  pub cleared : (type : ℕ) → type < places → (get_or clear type 0 ≡ 0 → ⊥) → creates ds values type ≡ false

pub clear_start : (ds : List Definition) (values : List ℕ) → Clear ds values (replicate places 0)
clear_start ds values = record {
  long = length-replicate {A = ℕ} places 0;
  cleared = λ type h marked. absurd (marked (get_or-replicate {A = ℕ} places type 0 0 h));
}

-- one more is marked
pub clear_more : (ds : List Definition) (values clear : List ℕ) → Clear ds values clear → (number : ℕ) → creates ds values number ≡ false → Clear ds values (set clear number 1)
clear_more ds values clear c number none = record {
  long = length-set clear number 1 ∙ c.long;
  cleared = λ type h marked. go type h marked (ℕ_discrete type number);
}
  where
    go : (type : ℕ) → type < places → (get_or (set clear number 1) type 0 ≡ 0 → ⊥) → Dec (type ≡ number) → creates ds values type ≡ false
    go type h marked (yes same) = ap (creates ds values) same ∙ none
    go type h marked (no other) = c.cleared type h (λ e. marked (get_or-set_other clear number type 1 0 other ∙ e))
