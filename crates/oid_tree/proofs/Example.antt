-- The OIDs of the module of "The shelf card": `t` is { iso 9 } and `a` { t 1 }; and where they stand.
-- Assumes nothing.
use mathlib.Core.Path.{◌≡◌, refl}
use mathlib.Core.List.{[], ◌∷◌}
use Prim.Native.Nat.{ℕ}
use Rattle.index.specs.First.{hits, hits_of}
use Rattle.terminal.specs.Terminal.{lower, number}
use Rattle.symbol.specs.Symbol.{iso_oid}
use Rattle.definition.specs.Landmark.{has_oid, identity, plain}
use Rattle.definition.specs.Fields.{span}
use Rattle.module_table.specs.Lead.{lead_in}
use Rattle.module_table.specs.Module.{Module}
use Rattle.module_table.specs.declared.Definition.{Definition}
use Rattle.oid_number.specs.Number.{number_tokens, parts_in}
use Rattle.oid_head.specs.Oid.{definition_numbers, resolved_oid, numbers_before}
use Rattle.oid_tree.specs.Stage.{with_oids}

-- a definition of a kind, with its OID value between these tokens
defined : ℕ → ℕ → ℕ → Definition
defined kind from to = record {
  kind = kind;
  name = record { 0 = 0 };
  status = 0;
  access = 0;
  default = 0;
  syntax = span 0 0;
  index = span 0 0;
  augments = span 0 0;
  objects = span 0 0;
  columns = span 0 0;
  oid = span from to;
  start = record { 0 = 0 };
  count = 0;
  class = 0;
  sequence = 0;
  parent = 0;
}

-- the tokens iso 9 t 1, of which `iso` leads to itself and `t` to the first definition
card : Module
card = record {
  classes = lower ∷ number ∷ lower ∷ number ∷ [];
  values = 1 ∷ 9 ∷ 2 ∷ 1 ∷ [];
  definitions = defined identity 0 2 ∷ defined plain 2 4 ∷ [];
  numbers = [];
}

first_oid : resolved_oid card 0 ≡ 1 ∷ 9 ∷ []
unfolding card defined resolved_oid definition_numbers has_oid lead_in iso_oid parts_in number_tokens hits hits_of
first_oid = refl

second_oid : resolved_oid card 1 ≡ 1 ∷ 9 ∷ 1 ∷ []
unfolding card defined resolved_oid definition_numbers has_oid lead_in iso_oid parts_in number_tokens hits hits_of
second_oid = refl

all_numbers : (with_oids card).numbers ≡ 1 ∷ 9 ∷ 1 ∷ 9 ∷ 1 ∷ []
unfolding card defined with_oids numbers_before resolved_oid definition_numbers has_oid lead_in iso_oid parts_in number_tokens hits hits_of
all_numbers = refl
