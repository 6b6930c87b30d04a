-- A module, as it is understood when its names are known: what the rules from 12 on are stated over.
-- Assumes nothing.
use Rattle.std.specs.Prelude.{Bool, List, ℕ, length, take, drop}
use Rattle.rule.specs.Rule.{Rule}
use Rattle.module_table.specs.declared.Definition.{Definition}
use Rattle.module_table.specs.Definition.{definitions_in, entry}

pub record Module : Type 0 where
  -- the class of each token
  pub classes : List ℕ
  -- the value of each token: of a number its magnitude, of a name in use what it leads to, as a word; 0 for others
  pub values : List ℕ
  -- the definitions in text order
  pub definitions : List Definition
  -- the sub-identifiers of all OIDs
  pub numbers : List ℕ

-- the most definitions that a module may have
abbrev pub most_definitions : ℕ
most_definitions = 512

-- the module that lies in four slices
abbrev pub module_in : List ℕ → List ℕ → List ℕ → List ℕ → Module
module_in classes values words numbers = record {
  classes = classes;
  values = values;
  definitions = definitions_in words;
  numbers = numbers;
}

-- definition k of a module, and how many it has
abbrev pub at : Module → ℕ → Definition
at m k = entry m.definitions k

abbrev pub count_of : Module → ℕ
count_of m = length m.definitions

-- the sub-identifiers of a definition, by where they start and how many they are
abbrev pub oid_in : List ℕ → Definition → List ℕ
oid_in numbers d = take d.count (drop d.start.0 numbers)

-- the OID of definition k
abbrev pub oid_of : Module → ℕ → List ℕ
oid_of m k = oid_in m.numbers (at m k)

-- the token of the name of definition k
abbrev pub name_at : List Definition → ℕ → ℕ
name_at ds k = (entry ds k).name.0

-- a rule over the definitions in text order, each placed at its name, with the clause and the token that it stands against
abbrev pub rule_of_definitions : ℕ → List Definition → (ℕ → Bool) → (ℕ → ℕ) → (ℕ → ℕ) → Rule
rule_of_definitions number ds breach clause other = record {
  number = number;
  from = 0;
  to = length ds;
  breach = breach;
  place = name_at ds;
  clause = clause;
  other = other;
}
