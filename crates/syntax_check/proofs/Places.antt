-- Where rules 16 to 18 have their places: each breach of a definition's rule stands at the token that it is tested at, inside the
-- syntax of that definition. So where the syntaxes stand in text order, the places rise.
-- Assumes nothing.
use mathlib.Core.Path.{◌≡◌, refl}
use mathlib.Core.Bool.{Bool, true, false, cond, not, ◌&&◌}
use mathlib.Core.List.{List}
use Prim.Native.Nat.{ℕ, ◌+◌, ◌≤◌, ◌<◌}
use native.Mathlib.Decide.{dec_lt}
use native.Mathlib.Omega.{arith}
use borrow.Author.Tests.{ltb-false}
use lib.Dec.{eqb, ltb}
use lib.ListN.{length}
use Rattle.index.proofs.Search.{first_inside, first_none}
use Rattle.rule.specs.Rule.{Rule}
use Rattle.terminal.specs.Terminal.{left_brace, right_brace, left_paren, right_paren, Upper, BITS, INTEGER, OBJECT, OCTET, SIZE}
use Rattle.definition.specs.Landmark.{class_at}
use Rattle.definition.specs.Fields.{find, span, restriction_at, syntax_at}
use Rattle.definition.specs.declared.Span.{Span}
use Rattle.definition.specs.declared.Restriction.{Restriction}
use Rattle.definition.specs.declared.Restriction.TheVariants.{Free, Ranges, Sizes, Enumeration}
use Rattle.definition.specs.declared.Syntax.{Syntax}
use Rattle.definition.specs.declared.Syntax.TheVariants.{Integer, Named, Octets, ObjectIdentifier, Bits, SequenceOf}
use Rattle.module_table.specs.Definition.{entry}
use Rattle.module_table.specs.declared.Definition.{Definition}
use Rattle.type_class.specs.Class.{has_syntax, syntax_in}
use Rattle.sub_type.specs.Number.{end_in, range_limits, size_limits}
use Rattle.enumeration.specs.Item.{Spelling}
use Rattle.sub_type.specs.Refusal.{limit_rule}
use Rattle.range_list.specs.Refusal.{misplaced_range}
use Rattle.enumeration.specs.Refusal.{item_rule}
use Rattle.sub_type.specs.declared.Limits as limits
use Rattle.syntax_check.specs.Refusal.{restriction_of, place_test, limit_test, enumeration_test, item_test, is_untested, range_test, items_of, nothing_tested, demand_number, range_test_rule, item_test_rule, range_rule_of, item_rule_of}
use Rattle.syntax_check.specs.declared.Demand.{Demand}
use Rattle.syntax_check.specs.declared.Demand.TheVariants.{Places, Limits}
use Rattle.std.specs.Prelude.{None}
use Rattle.syntax_check.specs.declared.RangeTest.TheVariants.{Untested}

-- a rule of this number is tested at tokens behind a and before b, each of which is its place
pub record Inside (number a b : ℕ) (r : Rule) : Type 0 where
  pub numbered : r.number ≡ number
  pub placed : (i : ℕ) → r.place i ≡ i
  pub between : (i : ℕ) → r.from ≤ i → i < r.to → (a < i) × (i < b)

-- the tokens of a span stand so
SpanIn : ℕ → ℕ → Span → Type 0
SpanIn a b s = (i : ℕ) → s.from ≤ i → i < s.to → (a < i) × (i < b)

-- those of a restriction do
FitsIn : ℕ → ℕ → Restriction → Type 0
FitsIn a b Free = Unit {0}
FitsIn a b (Ranges s) = SpanIn a b s
FitsIn a b (Sizes s) = SpanIn a b s
FitsIn a b (Enumeration s) = SpanIn a b s

end_before : (cs : List ℕ) (s : Span) → end_in cs s ≤ s.to
end_before cs s = go (ltb s.to (length cs)) refl
  where
    go : (b : Bool) → ltb s.to (length cs) ≡ b → cond b s.to (length cs) ≤ s.to
    go true e = omega arith
    go false e = omega (arith, ltb-false s.to (length cs) e)

-- ---- the restriction of a syntax

-- what stands up to a bracket
up_to : (cs : List ℕ) (a from class e : ℕ) → a < from → SpanIn a e (span from (find cs class from e))
unfolding SpanIn
up_to cs a from class e behind i l h = go (dec_lt e from)
  where
    test : ℕ → Bool
    test j = eqb (class_at cs j) class

    go : Dec (e < from) → (a < i) × (i < e)
    go (yes m) = absurd (omega (arith, first_none test from e (omega arith)))
    go (no m) = (omega arith, omega (arith, (first_inside test from e (omega arith)).1))

restriction_fits : (cs : List ℕ) (a r e : ℕ) → a < r → FitsIn a e (restriction_at cs r e)
unfolding restriction_at FitsIn
restriction_fits cs a r e behind =
    go (eqb (class_at cs r) left_brace) (eqb (class_at cs r) left_paren && eqb (class_at cs (r + 1)) SIZE) (eqb (class_at cs r) left_paren)
  where
    go : (x y z : Bool)
        → FitsIn a e (cond x (Enumeration (span (r + 1) (find cs right_brace (r + 1) e))) (cond y (Sizes (span (r + 3) (find cs right_paren (r + 3) e))) (cond z (Ranges (span (r + 1) (find cs right_paren (r + 1) e))) Free)))
    go true y z = up_to cs a (r + 1) right_brace e (omega arith)
    go false true z = up_to cs a (r + 3) right_paren e (omega arith)
    go false false true = up_to cs a (r + 1) right_paren e (omega arith)
    go false false false = tt

syntax_fits : (cs : List ℕ) (s : Span) → FitsIn s.from s.to (restriction_of (syntax_in cs s))
unfolding syntax_in syntax_at FitsIn
syntax_fits cs s =
    go (ltb s.from (length cs)) (eqb (class_at cs s.from) INTEGER) (eqb (class_at cs s.from) Upper) (eqb (class_at cs s.from) OCTET)
    (eqb (class_at cs s.from) OBJECT) (eqb (class_at cs s.from) BITS)
  where
    next : FitsIn s.from s.to (restriction_at cs (s.from + 1) s.to)
    next = restriction_fits cs s.from (s.from + 1) s.to (omega arith)

    go : (there integer named octets identifier bits : Bool)
        → FitsIn s.from s.to
        (restriction_of
        (cond there
        (cond integer (Integer (restriction_at cs (s.from + 1) s.to))
        (cond named (Named (record { 0 = s.from }) (restriction_at cs (s.from + 1) s.to))
        (cond octets (Octets (restriction_at cs (s.from + 2) s.to))
        (cond identifier ObjectIdentifier
        (cond bits (Bits (restriction_at cs (s.from + 1) s.to)) (SequenceOf (record { 0 = s.from + 2 })))))))
        ObjectIdentifier))
    go false integer named octets identifier bits = tt
    go true true named octets identifier bits = next
    go true false true octets identifier bits = next
    go true false false true identifier bits = restriction_fits cs s.from (s.from + 2) s.to (omega arith)
    go true false false false true bits = tt
    go true false false false false true = next
    go true false false false false false = tt

-- ---- the rules

nothing_inside : (number a b : ℕ) → Inside number a b (nothing_tested number)
nothing_inside number a b = record {
  numbered = refl;
  placed = λ i. refl;
  between = λ i l h. absurd (omega arith);
}

module _ (cs vs : List ℕ) (a b : ℕ) where
  -- a rule that is tested at the tokens of a span
  tested_inside : (r : Rule) (s : Span) → SpanIn a b s → r.from ≡ s.from → r.to ≡ end_in cs s → ((i : ℕ) → r.place i ≡ i)
      → Inside r.number a b r
  unfolding SpanIn
  tested_inside r s fits from to placed = record {
    numbered = refl;
    placed = placed;
    between = λ i l h. fits i (omega (arith, l, from)) (omega (arith, h, to, end_before cs s));
  }

  placed_inside : (s : Span) → SpanIn a b s → Inside 16 a b (misplaced_range cs vs s)
  unfolding misplaced_range
  placed_inside s fits = tested_inside (misplaced_range cs vs s) s fits refl refl (λ i. refl)

  limited_inside : (l : limits.Limits) (s : Span) → SpanIn a b s → Inside 17 a b (limit_rule cs vs l s)
  unfolding limit_rule
  limited_inside l s fits = tested_inside (limit_rule cs vs l s) s fits refl refl (λ i. refl)

  place_inside : (r : Restriction) → FitsIn a b r → Inside 16 a b (range_test_rule cs vs 16 (place_test r))
  unfolding FitsIn
  place_inside Free f = nothing_inside 16 a b
  place_inside (Ranges s) f = placed_inside s f
  place_inside (Sizes s) f = placed_inside s f
  place_inside (Enumeration s) f = nothing_inside 16 a b

  limit_inside : (class : ℕ) (r : Restriction) → FitsIn a b r → Inside 17 a b (range_test_rule cs vs 17 (limit_test class r))
  unfolding FitsIn
  limit_inside class Free f = nothing_inside 17 a b
  limit_inside class (Ranges s) f = limited_inside (range_limits class) s f
  limit_inside class (Sizes s) f = limited_inside (size_limits class) s f
  limit_inside class (Enumeration s) f = nothing_inside 17 a b

  enumeration_inside : (x : Spelling) (l : limits.Limits) (r : Restriction) → FitsIn a b r → Inside 18 a b (item_test_rule x cs vs (enumeration_test l r))
  unfolding FitsIn SpanIn item_rule
  enumeration_inside x l Free f = nothing_inside 18 a b
  enumeration_inside x l (Ranges s) f = nothing_inside 18 a b
  enumeration_inside x l (Sizes s) f = nothing_inside 18 a b
  enumeration_inside x l (Enumeration s) f = tested_inside (item_rule x cs vs l s) s f refl refl (λ i. refl)

  items_inside : (x : Spelling) (y : Syntax) → FitsIn a b (restriction_of y) → Inside 18 a b (item_test_rule x cs vs (item_test y))
  items_inside x (Integer r) f = enumeration_inside x limits.TheVariants.Integer r f
  items_inside x (Named t r) f = nothing_inside 18 a b
  items_inside x (Octets r) f = nothing_inside 18 a b
  items_inside x ObjectIdentifier f = nothing_inside 18 a b
  items_inside x (Bits r) f = enumeration_inside x limits.TheVariants.Unsigned r f
  items_inside x (SequenceOf t) f = nothing_inside 18 a b

module _ (cs vs : List ℕ) (ds : List Definition) (k : ℕ) where
  -- rules 16 and 17 of definition k stand inside its syntax
  pub range_rule_inside : (demand : Demand) → Inside (demand_number demand) (entry ds k).syntax.from (entry ds k).syntax.to (range_rule_of cs vs ds demand k)
  unfolding range_test
  range_rule_inside Places = go (has_syntax (entry ds k))
    where
      go : (b : Bool)
          → Inside 16 (entry ds k).syntax.from (entry ds k).syntax.to
          (range_test_rule cs vs 16 (cond b (place_test (restriction_of (syntax_in cs (entry ds k).syntax))) Untested))
      go true = place_inside cs vs _ _ _ (syntax_fits cs (entry ds k).syntax)
      go false = nothing_inside 16 _ _
  range_rule_inside Limits = go (has_syntax (entry ds k) && not (is_untested cs vs ds (entry ds k)))
    where
      go : (b : Bool)
          → Inside 17 (entry ds k).syntax.from (entry ds k).syntax.to
          (range_test_rule cs vs 17 (cond b (limit_test (entry ds k).class (restriction_of (syntax_in cs (entry ds k).syntax))) Untested))
      go true = limit_inside cs vs _ _ (entry ds k).class _ (syntax_fits cs (entry ds k).syntax)
      go false = nothing_inside 17 _ _

  -- so does rule 18
  pub item_rule_inside : (x : Spelling) → Inside 18 (entry ds k).syntax.from (entry ds k).syntax.to (item_rule_of x cs vs ds k)
  unfolding items_of
  item_rule_inside x = go (has_syntax (entry ds k))
    where
      go : (b : Bool)
          → Inside 18 (entry ds k).syntax.from (entry ds k).syntax.to
          (item_test_rule x cs vs (cond b (item_test (syntax_in cs (entry ds k).syntax)) None))
      go true = items_inside cs vs _ _ x (syntax_in cs (entry ds k).syntax) (syntax_fits cs (entry ds k).syntax)
      go false = nothing_inside 18 _ _
