-- Refusals 16 to 19 over a module with classes. 16 to 18 are a rule for each definition, in text order; a definition's rule is tested
-- at its ranges or items, in text order, so that the first that is broken has the earliest place.
-- `cs` are the classes of a module's tokens, `vs` their values, `ds` its definitions, `x` the text that the tokens stand in.
-- Assumes nothing.
use Rattle.std.specs.Prelude.{Bool, false, not, ◌&&◌, ◌||◌, List, [], ◌∷◌, ◌++◌, ℕ, eqb, length, Option, None, Some}
use Rattle.rule.specs.Rule.{Rule, plain_rule, each}
use Rattle.definition.specs.Landmark.{object}
use Rattle.definition.specs.declared.Restriction.{Restriction}
use Rattle.definition.specs.declared.Restriction.TheVariants.{Free, Ranges, Sizes, Enumeration}
use Rattle.definition.specs.declared.Syntax.{Syntax}
use Rattle.definition.specs.declared.Syntax.TheVariants.{Integer, Named, Octets, ObjectIdentifier, Bits, SequenceOf}
use Rattle.module_table.specs.Definition.{entry}
use Rattle.module_table.specs.Module.{Module}
use Rattle.module_table.specs.declared.Definition.{Definition}
use Rattle.module_table.specs.declared.Lead.{Lead}
use Rattle.module_table.specs.declared.Lead.TheVariants.{Iso, Import, Definition as Defined, Nothing}
use Rattle.index.specs.Choice.{when◌then◌else◌}
use Rattle.type_class.specs.Class.{has_syntax, syntax_in, lead_of, is_indirect}
use Rattle.sub_type.specs.Number.{range_limits, size_limits}
use Rattle.enumeration.specs.Item.{Spelling}
use Rattle.sub_type.specs.Refusal.{limit_rule}
use Rattle.range_list.specs.Refusal.{misplaced_range}
use Rattle.enumeration.specs.Refusal.{item_rule}
use Rattle.sub_type.specs.declared.Limits as limits
use Rattle.syntax_check.specs.declared.Demand.{Demand}
use Rattle.syntax_check.specs.declared.Demand.TheVariants.{Places, Limits}
use Rattle.syntax_check.specs.declared.RangeTest.{RangeTest}
use Rattle.syntax_check.specs.declared.RangeTest.TheVariants.{Untested, Placed, Within}
use Rattle.enumeration.specs.declared.Enumeration as enumeration

-- the restriction of a syntax
abbrev pub restriction_of : Syntax → Restriction
restriction_of (Integer r) = r
restriction_of (Named t r) = r
restriction_of (Octets r) = r
restriction_of ObjectIdentifier = Free
restriction_of (Bits r) = r
restriction_of (SequenceOf t) = Free

-- 16, on a restriction: ranges and sizes are tested against each other
abbrev pub place_test : Restriction → RangeTest
place_test Free = Untested
place_test (Ranges s) = Placed s
place_test (Sizes s) = Placed s
place_test (Enumeration s) = Untested

-- 17, on a restriction of a syntax of this class: ranges and sizes are tested for their limits
abbrev pub limit_test : ℕ → Restriction → RangeTest
limit_test class Free = Untested
limit_test class (Ranges s) = Within (range_limits class) s
limit_test class (Sizes s) = Within (size_limits class) s
limit_test class (Enumeration s) = Untested

-- 18, on a restriction, with the limits of its numbers
abbrev pub enumeration_test : limits.Limits → Restriction → Option enumeration.Enumeration
enumeration_test l Free = None
enumeration_test l (Ranges s) = None
enumeration_test l (Sizes s) = None
enumeration_test l (Enumeration s) = Some (record { span = s; limits = l })

-- 18, on a syntax: an INTEGER's numbers are those of class 1, and none of BITS is negative
abbrev pub item_test : Syntax → Option enumeration.Enumeration
item_test (Integer r) = enumeration_test limits.TheVariants.Integer r
item_test (Named t r) = None
item_test (Octets r) = None
item_test ObjectIdentifier = None
item_test (Bits r) = enumeration_test limits.TheVariants.Unsigned r
item_test (SequenceOf t) = None

-- a name leads to a convention that breaches 19
abbrev pub leads_to_indirect : List ℕ → List ℕ → List Definition → Lead → Bool
leads_to_indirect cs vs ds Iso = false
leads_to_indirect cs vs ds (Import k) = false
leads_to_indirect cs vs ds (Defined r) = is_indirect cs vs (entry ds r.0)
leads_to_indirect cs vs ds Nothing = false

-- 17 isn't tested in a convention that breaches 19, nor in an object that names one
unfoldable pub is_untested : List ℕ → List ℕ → List Definition → Definition → Bool
is_untested cs vs ds d =
    is_indirect cs vs d || (eqb d.kind object && leads_to_indirect cs vs ds (lead_of vs (syntax_in cs d.syntax)))

-- how the ranges of a definition are tested
unfoldable pub range_test : List ℕ → List ℕ → List Definition → Demand → Definition → RangeTest
range_test cs vs ds Places d = when has_syntax d then place_test (restriction_of (syntax_in cs d.syntax)) else Untested
range_test cs vs ds Limits d =
    when has_syntax d && not (is_untested cs vs ds d) then limit_test d.class (restriction_of (syntax_in cs d.syntax)) else Untested

-- its items that are tested, if it has them
unfoldable pub items_of : List ℕ → Definition → Option enumeration.Enumeration
items_of cs d = when has_syntax d then item_test (syntax_in cs d.syntax) else None

-- a rule that is tested nowhere
abbrev pub nothing_tested : ℕ → Rule
nothing_tested number = plain_rule number 0 0 (λ k. false) (λ k. k)

-- the refusal of a demand
abbrev pub demand_number : Demand → ℕ
demand_number Places = 16
demand_number Limits = 17

-- what a test of this refusal asks
abbrev pub range_test_rule : List ℕ → List ℕ → ℕ → RangeTest → Rule
range_test_rule cs vs number Untested = nothing_tested number
range_test_rule cs vs number (Placed s) = misplaced_range cs vs s
range_test_rule cs vs number (Within limits s) = limit_rule cs vs limits s

abbrev pub item_test_rule : Spelling → List ℕ → List ℕ → Option enumeration.Enumeration → Rule
item_test_rule x cs vs None = nothing_tested 18
item_test_rule x cs vs (Some e) = item_rule x cs vs e.limits e.span

-- 16 and 17, of definition k
abbrev pub range_rule_of : List ℕ → List ℕ → List Definition → Demand → ℕ → Rule
range_rule_of cs vs ds demand k = range_test_rule cs vs (demand_number demand) (range_test cs vs ds demand (entry ds k))

-- 18, of definition k
abbrev pub item_rule_of : Spelling → List ℕ → List ℕ → List Definition → ℕ → Rule
item_rule_of x cs vs ds k = item_test_rule x cs vs (items_of cs (entry ds k))

-- 19: a convention whose SYNTAX name isn't one of SMI's eight types, imported; its place is that name
abbrev pub indirect_convention : List ℕ → List ℕ → List Definition → Rule
indirect_convention cs vs ds =
    plain_rule 19 0 (length ds) (λ k. is_indirect cs vs (entry ds k)) (λ k. (entry ds k).syntax.from)

-- the rules in the order of their numbers: 16 of all definitions before 17 of any, and so on
unfoldable pub rules_over : Spelling → List ℕ → List ℕ → List Definition → List Rule
rules_over x cs vs ds =
    each (range_rule_of cs vs ds Places) 0 (length ds)
    ++ (each (range_rule_of cs vs ds Limits) 0 (length ds)
    ++ (each (item_rule_of x cs vs ds) 0 (length ds) ++ indirect_convention cs vs ds ∷ []))

-- 16 to 19 over a module with classes, and the text that its tokens stand in
abbrev pub syntax_rules : Spelling → Module → List Rule
syntax_rules x m = rules_over x m.classes m.values m.definitions
