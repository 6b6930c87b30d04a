-- Whether a use is known, by what its name leads to.
-- Assumes nothing.
use mathlib.Core.Path.{◌≡◌, sym, ap, ◌∙◌}
use mathlib.Core.Bool.{Bool, false, not}
use mathlib.Core.List.{List}
use Prim.Native.Nat.{ℕ}
use Rattle.token.specs.Token.{Meaning}
use Rattle.module_table.specs.declared.Lead.{Lead}
use Rattle.name_kind.specs.Need.{need_at}
use Rattle.name_kind.specs.declared.need.Need.{Need}
use Rattle.name_kind.specs.declared.need.Need.TheVariants.{NoName}
use Rattle.outline.specs.Outline.{outline}
use Rattle.scope.specs.Token.{classes_of, spelled}
use Rattle.scope.specs.Lead.{leads_to}
use Rattle.name_kind.specs.Serve.{serves}
use Rattle.name_kind.proofs.Served.{no_name_needed}
use Rattle.naming.specs.Rules.{is_unfit}

module _ (ms : List Meaning) (i : ℕ) (need : Need) (is : need ≡ need_at (classes_of ms) i) where
  pub no_use_known : need ≡ NoName → false ≡ is_unfit ms i
  unfolding is_unfit
  no_use_known none =
      sym (ap not (ap (serves (outline (classes_of ms)) (leads_to ms (spelled ms i))) (sym is ∙ none) ∙ no_name_needed (outline (classes_of ms)) (leads_to ms (spelled ms i))))

  pub use_known : (lead : Lead) → lead ≡ leads_to ms (spelled ms i) → (r : Bool) → r ≡ serves (outline (classes_of ms)) lead need → not r ≡ is_unfit ms i
  unfolding is_unfit
  use_known lead leads r served =
      let same : serves (outline (classes_of ms)) lead need ≡ serves (outline (classes_of ms)) (leads_to ms (spelled ms i)) (need_at (classes_of ms) i) = rw (leads, is) in
      ap not (served ∙ same)
