-- Two modules whose tokens and definitions are alike, but for where the numbers of OIDs stand, have the same OIDs.
-- Assumes nothing.
use mathlib.Core.Path.{◌≡◌, refl, ap, ◌∙◌}
use mathlib.Core.Bool.{Bool, cond, ◌&&◌}
use mathlib.Core.List.{List, [], ◌++◌}
use Prim.Native.Nat.{ℕ, zero, suc}
use lib.Dec.{ltb}
use lib.ListN.{length}
use Rattle.index.specs.Walk.{after}
use Rattle.definition.specs.Landmark.{has_oid}
use Rattle.definition.specs.declared.Span.{Span}
use Rattle.module_table.specs.Definition.{entry}
use Rattle.module_table.specs.Lead.{lead_at}
use Rattle.module_table.specs.Module.{Module}
use Rattle.module_table.specs.declared.Definition.{Definition}
use Rattle.module_table.specs.declared.Lead.{Lead}
use Rattle.module_table.specs.declared.Lead.TheVariants.{Iso, Import, Nothing}
use Rattle.oid_number.specs.Number.{parts_in}
use Rattle.oid_head.specs.Oid.{has_value, head_of, parts_of, is_built_in, next_head, name_of, reached_in, reaches, name_numbers, definition_numbers, resolved_oid, numbers_before}

-- the definitions are as many, of the same kinds and with the same OID values
pub record Alike (old new : List Definition) : Type 0 where
  pub counted : length new ≡ length old
  pub kind : (k : ℕ) → (entry new k).kind ≡ (entry old k).kind
  pub oid : (k : ℕ) → (entry new k).oid ≡ (entry old k).oid

module _ (classes values : List ℕ) (old new : List Definition) (a b : List ℕ) (alike : Alike old new) where
  abbrev m : Module
  m = record { classes = classes; values = values; definitions = old; numbers = a }

  abbrev o : Module
  o = record { classes = classes; values = values; definitions = new; numbers = b }

  pub value_alike : (k : ℕ) → has_value (entry new k) ≡ has_value (entry old k)
  value_alike k = ap (λ (x : ℕ). ltb 0 x && has_oid x) (alike.kind k)

  head_alike : (k : ℕ) → head_of o k ≡ head_of m k
  head_alike k = ap (λ (s : Span). lead_at values s.from) (alike.oid k)

  parts_alike : (k : ℕ) → parts_of o k ≡ parts_of m k
  parts_alike k = ap (parts_in classes values) (alike.oid k)

  next_alike : (l : Lead) → next_head o l ≡ next_head m l
  next_alike Iso = refl
  next_alike (Import k) = refl
  next_alike (Lead.Definition d) =
      ap (λ (b : Bool). cond b (head_of o d.0) (Lead.Definition d)) (value_alike d.0)
      ∙ ap (λ (l : Lead). cond (has_value (entry old d.0)) l (Lead.Definition d)) (head_alike d.0)
  next_alike Nothing = refl

  walk_alike : (n : ℕ) (l : Lead) → after (next_head o) n l ≡ after (next_head m) n l
  unfolding after
  walk_alike zero l = refl
  walk_alike (suc n) l = next_alike (after (next_head o) n l) ∙ ap (next_head m) (walk_alike n l)

  pub reached_alike : (n : ℕ) (l : Lead) → reached_in o n l ≡ reached_in m n l
  reached_alike n l = ap is_built_in (walk_alike n l)

  pub reaches_alike : (k : ℕ) → reaches o k ≡ reaches m k
  unfolding reaches
  reaches_alike k = reached_alike (length new) (name_of k) ∙ ap (λ (n : ℕ). reached_in m n (name_of k)) alike.counted

  numbers_alike : (n k : ℕ) → definition_numbers o n k ≡ definition_numbers m n k
  unfolding definition_numbers
  numbers_alike zero k = refl
  numbers_alike (suc n) k =
      ap (λ (b : Bool). cond b (name_numbers (definition_numbers o n) (head_of o k) ++ parts_of o k) []) (value_alike k)
      ∙ ap (λ (ns : List ℕ). cond (has_value (entry old k)) (name_numbers (definition_numbers o n) (head_of o k) ++ ns) []) (parts_alike k)
      ∙ ap (λ (ns : List ℕ). cond (has_value (entry old k)) (ns ++ parts_of m k) [])
      (ap (name_numbers (definition_numbers o n)) (head_alike k) ∙ go (head_of m k) (numbers_alike n))
    where
      go : (l : Lead) → ((e : ℕ) → definition_numbers o n e ≡ definition_numbers m n e) → name_numbers (definition_numbers o n) l ≡ name_numbers (definition_numbers m n) l
      go Iso ih = refl
      go (Import e) ih = refl
      go (Lead.Definition d) ih = ih d.0
      go Nothing ih = refl

  pub oid_alike : (k : ℕ) → resolved_oid o k ≡ resolved_oid m k
  unfolding resolved_oid
  oid_alike k = numbers_alike (length new) k ∙ ap (λ (n : ℕ). definition_numbers m n k) alike.counted

  pub before_alike : (k : ℕ) → numbers_before o k ≡ numbers_before m k
  unfolding numbers_before
  before_alike zero = refl
  before_alike (suc k) =
      ap (λ (ns : List ℕ). ns ++ resolved_oid o k) (before_alike k) ∙ ap (λ (ns : List ℕ). numbers_before m k ++ ns) (oid_alike k)
