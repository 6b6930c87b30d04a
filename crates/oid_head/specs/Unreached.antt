-- Refusal 12, a rule over the definitions in text order, placed at their names.
-- Assumes nothing.
use Rattle.std.specs.Prelude.{◌≡◌, Bool, true, not, ◌&&◌, List, ℕ, ◌<◌}
use Rattle.rule.specs.Rule.{Rule, finding}
use Rattle.rule.specs.declared.Finding.{Finding}
use Rattle.module_table.specs.Module.{Module, at, count_of, name_at, rule_of_definitions}
use Rattle.module_table.specs.declared.Definition.{Definition}
use Rattle.oid_head.specs.Oid.{has_value, reaches}

-- a rule of one clause that stands against nothing else
abbrev pub plain_over : ℕ → List Definition → (ℕ → Bool) → Rule
plain_over number ds breach = rule_of_definitions number ds breach (λ k. 0) (name_at ds)

-- what there is to say where definition k breaks such a rule
abbrev pub finding_at : ℕ → List Definition → ℕ → Finding
finding_at number ds k = finding (plain_over number ds (λ i. true)) k

-- 12: a definition whose heads never reach a built-in name
unfoldable pub unreached : Module → Rule
unreached m = plain_over 12 m.definitions (λ k. has_value (at m k) && not (reaches m k))

-- each definition that has an OID value has an OID
abbrev pub AllReach : Module → Type 0
AllReach m = (k : ℕ) → k < count_of m → has_value (at m k) ≡ true → reaches m k ≡ true
