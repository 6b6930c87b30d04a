-- The fields of a definition: the tokens from its name, d, up to its end, e.
-- Assumes nothing.
use Rattle.std.specs.Prelude.{Bool, cond, ◌&&◌, ◌||◌, List, ◌≡◌, ℕ, ◌+◌, ◌-◌, ◌<◌, ltb, eqb, length, get_or}
use Rattle.index.specs.Choice.{when◌then◌else◌}
use Rattle.index.specs.First.{first}
use Rattle.terminal.specs.Terminal.{terminals, left_brace, right_brace, left_paren, right_paren, Upper, assign, current, not_accessible, AUGMENTS, BITS, DEFVAL, INDEX, INTEGER, MAX-ACCESS, OBJECT, OBJECTS, OCTET, SEQUENCE, SIZE, STATUS, SYNTAX, UNITS}
use Rattle.definition.specs.Landmark.{class_at, kind_at, has_oid, sequence_type, definitions, definition_end}
use Rattle.definition.specs.declared.Span.{Span}
use Rattle.definition.specs.declared.Fields.{Fields}
use Rattle.definition.specs.declared.Restriction.{Restriction}
use Rattle.definition.specs.declared.Restriction.TheVariants.{Free, Ranges, Sizes, Enumeration}
use Rattle.definition.specs.declared.Syntax.{Syntax}
use Rattle.definition.specs.declared.Syntax.TheVariants.{Integer, Named, Octets, ObjectIdentifier, Bits, SequenceOf}

-- the first token of this class from a on, below b; b where there is none
abbrev pub find : List ℕ → ℕ → ℕ → ℕ → ℕ
find cs class a b = first (λ (i : ℕ). eqb (class_at cs i) class) a b

-- where each class of tokens is found first from d on, below e
pub record FirstTokens (cs : List ℕ) (d e : ℕ) (firsts : List ℕ) : Type 0 where
  pub counted : length firsts ≡ terminals
  pub first_is : (class : ℕ) → class < terminals → get_or firsts class 0 ≡ find cs class d e

-- the tokens from a up to b
abbrev pub span : ℕ → ℕ → Span
span a b = record { from = a; to = b }

-- none of them
abbrev pub nowhere : ℕ → Span
nowhere e = span e e

-- what stands between the braces after the word at token w, if that is before e: { directly follows the word
unfoldable pub braced_at : List ℕ → ℕ → ℕ → Span
braced_at cs w e = cond (ltb w e) (span (w + 2) (find cs right_brace (w + 2) e)) (nowhere e)

-- what stands between the braces after the word of this class, if the definition has it
abbrev pub braced_after : List ℕ → ℕ → ℕ → ℕ → Span
braced_after cs class d e = braced_at cs (find cs class d e) e

-- the number, from 1 on, of the word after the word at token w, if that is before e, among words that start with `base`; else 0
unfoldable pub word_at : List ℕ → ℕ → ℕ → ℕ → ℕ
word_at cs base w e = cond (ltb w e) (class_at cs (w + 1) - base + 1) 0

-- the number of the word after the word of this class, if the definition has it
abbrev pub word_after : List ℕ → ℕ → ℕ → ℕ → ℕ → ℕ
word_after cs class base d e = word_at cs base (find cs class d e) e

-- the word that ends an object's syntax
abbrev pub ends_syntax : List ℕ → ℕ → Bool
ends_syntax cs i = eqb (class_at cs i) UNITS || eqb (class_at cs i) MAX-ACCESS

-- what stands behind the word at token w, if that is before e, up to the word that ends an object's syntax
unfoldable pub syntax_behind : List ℕ → ℕ → ℕ → Span
syntax_behind cs w e = cond (ltb w e) (span (w + 1) (first (ends_syntax cs) (w + 1) e)) (nowhere e)

-- the syntax, without the word SYNTAX: up to UNITS or MAX-ACCESS in an object, and to the definition's end in a convention
abbrev pub syntax_span : List ℕ → ℕ → ℕ → Span
syntax_span cs d e = syntax_behind cs (find cs SYNTAX d e) e

-- the columns of a SEQUENCE type: what stands between its braces
unfoldable pub columns_span : List ℕ → ℕ → ℕ → Span
columns_span cs d e = cond (eqb (kind_at cs d) sequence_type) (braced_after cs SEQUENCE d e) (nowhere e)

-- the OID: what stands between the braces after `::=`, its head first
unfoldable pub oid_span : List ℕ → ℕ → ℕ → Span
oid_span cs d e = cond (has_oid (kind_at cs d)) (braced_after cs assign d e) (nowhere e)

-- all of them
unfoldable pub fields_of : List ℕ → ℕ → ℕ → Fields
fields_of cs d e = record {
  kind = kind_at cs d;
  status = word_after cs STATUS current d e;
  access = word_after cs MAX-ACCESS not_accessible d e;
  syntax = syntax_span cs d e;
  index = braced_after cs INDEX d e;
  augments = braced_after cs AUGMENTS d e;
  has_default = ltb (find cs DEFVAL d e) e;
  objects = braced_after cs OBJECTS d e;
  columns = columns_span cs d e;
  oid = oid_span cs d e;
}

-- the fields of definition k, by its index among the definitions
unfoldable pub fields_at : List ℕ → ℕ → Fields
fields_at cs k = fields_of cs (get_or (definitions cs) k 0) (definition_end cs (get_or (definitions cs) k 0))

-- the restriction that starts at token r, in a definition that ends at e: sizes are ( SIZE ( .. ) ), ranges ( .. ), an
-- enumeration { .. }; each with what stands between its brackets
unfoldable pub restriction_at : List ℕ → ℕ → ℕ → Restriction
restriction_at cs r e =
    when eqb (class_at cs r) left_brace then Enumeration (span (r + 1) (find cs right_brace (r + 1) e))
    else when eqb (class_at cs r) left_paren && eqb (class_at cs (r + 1)) SIZE then Sizes (span (r + 3) (find cs right_paren (r + 3) e))
    else when eqb (class_at cs r) left_paren then Ranges (span (r + 1) (find cs right_paren (r + 1) e))
    else Free

-- the syntax that starts at token s, in a definition that ends at e, by its first word
unfoldable pub syntax_at : List ℕ → ℕ → ℕ → Syntax
syntax_at cs s e =
    when eqb (class_at cs s) INTEGER then Integer (restriction_at cs (s + 1) e)
    else when eqb (class_at cs s) Upper then Named (record { 0 = s }) (restriction_at cs (s + 1) e)
    else when eqb (class_at cs s) OCTET then Octets (restriction_at cs (s + 2) e)
    else when eqb (class_at cs s) OBJECT then ObjectIdentifier
    else when eqb (class_at cs s) BITS then Bits (restriction_at cs (s + 1) e)
    else SequenceOf (record { 0 = s + 2 })
