-- Where the definitions of a module stand, stage by stage: each stage leaves their number, their names and their syntaxes.
-- Assumes nothing.
use mathlib.Core.Path.{◌≡◌, refl, sym, ap, ◌∙◌}
use mathlib.Core.List.{List}
use Prim.Native.Nat.{ℕ, ◌<◌}
use native.Mathlib.Decide.{dec_lt}
use native.Mathlib.Omega.{arith}
use lib.ListN.{length, get_or, get_or-eq_default}
use Rattle.definition.specs.Landmark.{definitions}
use Rattle.module_table.specs.declared.Definition.{Definition}
use Rattle.module_table.specs.Definition.{absent, entry, changed}
use Rattle.module_table.specs.Module.{Module}
use Rattle.module_table.proofs.Filled.{changed_counted, column_kept}
use Rattle.definition.specs.Fields.{fields_at}
use Rattle.outline.specs.Outline.{outline}
use Rattle.outline.proofs.Outline.{outline_counted, outline_entry}
use Rattle.oid_tree.specs.Stage.{with_oid, with_oids}
use Rattle.type_class.specs.Stage.{definitions_classed}
use Rattle.reader.proofs.Counting.{classes_counted}
use Rattle.reader.proofs.Leaving.{classes_leave}
use Rattle.object_tree.specs.Tree.{parent_of, with_parent, parents_added}

-- the second list has as many definitions as the first, with the same names and syntaxes
pub record Keeps (old new : List Definition) : Type 0 where
  pub counted : length new ≡ length old
  pub names : (k : ℕ) → (entry new k).name.0 ≡ (entry old k).name.0
  pub syntaxes : (k : ℕ) → (entry new k).syntax ≡ (entry old k).syntax

pub keeps_then : {a b c : List Definition} → Keeps a b → Keeps b c → Keeps a c
keeps_then p q = record {
  counted = q.counted ∙ p.counted;
  names = λ k. q.names k ∙ p.names k;
  syntaxes = λ k. q.syntaxes k ∙ p.syntaxes k;
}

-- a stage that leaves them keeps them
stage_keeps : (f : ℕ → Definition → Definition) → ((k : ℕ) (d : Definition) → (f k d).name.0 ≡ d.name.0) → ((k : ℕ) (d : Definition) → (f k d).syntax ≡ d.syntax)
    → (ds : List Definition) → Keeps ds (changed f ds)
stage_keeps f name syntax ds = record {
  counted = changed_counted f ds;
  names = column_kept (λ (d : Definition). d.name.0) f name ds;
  syntaxes = column_kept (λ (d : Definition). d.syntax) f syntax ds;
}

pub oids_keep : (m : Module) → Keeps m.definitions (with_oids m).definitions
unfolding with_oids with_oid
oids_keep m = stage_keeps (with_oid m) (λ k d. refl) (λ k d. refl) m.definitions

pub classes_keep : (cs vs : List ℕ) (ds : List Definition) → Keeps ds (definitions_classed cs vs ds)
classes_keep cs vs ds = record {
  counted = classes_counted cs vs ds;
  names = classes_leave (λ (d : Definition). d.name.0) (λ d class sequence. refl) cs vs ds;
  syntaxes = classes_leave (λ (d : Definition). d.syntax) (λ d class sequence. refl) cs vs ds;
}

pub parents_keep : (numbers : List ℕ) (ds : List Definition) → Keeps ds (parents_added numbers ds)
unfolding parents_added
parents_keep numbers ds = stage_keeps (λ (k : ℕ) (d : Definition). with_parent (parent_of ds numbers k) d) (λ k d. refl) (λ k d. refl) ds

-- ---- the outline

module _ (cs : List ℕ) where
  pub outline_name : (k : ℕ) → (entry (outline cs) k).name.0 ≡ get_or (definitions cs) k 0
  unfolding absent
  outline_name k = go (dec_lt k (length (definitions cs)))
    where
      go : Dec (k < length (definitions cs)) → (entry (outline cs) k).name.0 ≡ get_or (definitions cs) k 0
      go (yes h) = ap (λ (d : Definition). d.name.0) (outline_entry cs k h)
      go (no h) =
          ap (λ (d : Definition). d.name.0) (get_or-eq_default (outline cs) absent (omega (arith, outline_counted cs)))
          ∙ sym (get_or-eq_default {A = ℕ} (definitions cs) 0 (omega arith))

  pub outline_syntax : (k : ℕ) → k < length (definitions cs) → (entry (outline cs) k).syntax ≡ (fields_at cs k).syntax
  unfolding fields_at
  outline_syntax k h = ap (λ (d : Definition). d.syntax) (outline_entry cs k h)
