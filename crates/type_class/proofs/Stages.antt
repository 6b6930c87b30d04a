-- What the objects' stage leaves as it was: the class that a definition gives those that name it.
-- Assumes nothing.
use mathlib.Core.Path.{◌≡◌, refl, ap, ◌∙◌}
use mathlib.Core.Bool.{Bool, true, false, cond}
use mathlib.Core.List.{List}
use Prim.Native.Nat.{ℕ, ◌-◌, ◌≤◌, ◌<◌}
use native.Mathlib.Decide.{dec_lt}
use native.Mathlib.Omega.{arith}
use borrow.Author.Tests.{ltb-true, eqb-true}
use lib.Dec.{eqb, ltb}
use lib.ListN.{length, get_or}
use Rattle.index.proofs.Search.{answers}
use Rattle.definition.specs.Landmark.{object}
use Rattle.definition.specs.declared.Syntax.{Syntax}
use Rattle.definition.specs.declared.Syntax.TheVariants.{Integer, Named, Octets, ObjectIdentifier, Bits, SequenceOf}
use Rattle.module_table.specs.Definition.{definitions_in, entry}
use Rattle.module_table.specs.Lead.{lead_in, definition_number}
use Rattle.module_table.specs.declared.Definition.{Definition}
use Rattle.module_table.specs.declared.Lead.{Lead}
use Rattle.module_table.specs.declared.Lead.TheVariants.{Iso, Import, Definition as Defined, Nothing}
use Rattle.module_table.proofs.Filled.{Filling}
use Rattle.type_class.specs.Class.{lead_of, class_given, lead_class, object_class, syntax_in}
use Rattle.type_class.specs.Stage.{object_classed}

-- a word leads to one of 512 definitions
word_small : (word : ℕ) → definition_number (lead_in word) ≤ 512
unfolding lead_in
word_small word = go (eqb word 0) (eqb word 1) (ltb word 514) refl
  where
    go : (a b c : Bool) → ltb word 514 ≡ c
        → definition_number (cond a Nothing (cond b Iso (cond c (Defined (record { 0 = word - 2 })) (Import (word - 514))))) ≤ 512
    go true b c e = omega arith
    go false true c e = omega arith
    go false false true e = omega (arith, ltb-true word 514 e)
    go false false false e = omega arith

pub number_small : (vs : List ℕ) (x : Syntax) → definition_number (lead_of vs x) ≤ 512
number_small vs (Integer r) = omega arith
number_small vs (Named t r) = word_small (get_or vs t.0 0)
number_small vs (Octets r) = omega arith
number_small vs ObjectIdentifier = omega arith
number_small vs (Bits r) = omega arith
number_small vs (SequenceOf t) = word_small (get_or vs t.0 0)

-- an object gives no class, before it has its own and after
given_kept : (cs vs : List ℕ) (ds : List Definition) (d : Definition) → class_given (object_classed cs vs ds d) ≡ class_given d
unfolding object_classed
given_kept cs vs ds d = answers (eqb d.kind object) held (λ e. simp e)
  where
    held : eqb d.kind object ≡ true → class_given (object_classed cs vs ds d) ≡ class_given d
    held e =
        let kind : d.kind ≡ 4 = eqb-true d.kind 4 e in
        simp kind

module _
    (cs vs : List ℕ) (ds : List Definition) (old : List ℕ) (k : ℕ) (new : List ℕ)
    (filling : Filling (λ k. λ d. object_classed cs vs ds d) old k new) (few : k ≤ length (definitions_in old))
  where
    entry_kept : (r : ℕ) → class_given (entry (definitions_in new) r) ≡ class_given (entry (definitions_in old) r)
    entry_kept r = go (dec_lt r k)
      where
        go : Dec (r < k) → class_given (entry (definitions_in new) r) ≡ class_given (entry (definitions_in old) r)
        go (yes h) = ap class_given (filling.done r h (omega arith)) ∙ given_kept cs vs ds (entry (definitions_in old) r)
        go (no h) = ap class_given (filling.left r (omega arith))

    lead_kept : (l : Lead) → lead_class (definitions_in new) l ≡ lead_class (definitions_in old) l
    lead_kept Iso = refl
    lead_kept (Import j) = refl
    lead_kept (Defined r) = entry_kept r.0
    lead_kept Nothing = refl

    -- so each object is given its class by the definitions as they were
    pub object_kept : (d : Definition) → object_classed cs vs (definitions_in new) d ≡ object_classed cs vs (definitions_in old) d
    unfolding object_classed object_class
    object_kept d = rw (lead_kept (lead_of vs (syntax_in cs d.syntax)))
