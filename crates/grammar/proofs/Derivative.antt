-- What a rule leaves to derive after a first token: its derivative, simplified as it is made. ∅ is dropped from a choice, a
-- sequence that starts with ∅ is ∅, ε is dropped from the start of a sequence, and sequences are associated to the right. No
-- two alternatives are ever merged.
-- Assumes nothing.
use mathlib.Core.Bool.{Bool, true, false, ◌&&◌}
use Prim.Native.Nat.{ℕ}
use lib.Dec.{eqb}
use Rattle.grammar.specs.Rule.{Rule, never, empty, token, ◌⨾◌, ◌or◌, repeated}

-- the one, then the other: ∅ and ε are dropped, and a sequence is associated to the right
abbrev pub sequence : Rule → Rule → Rule
sequence never s = never
sequence empty s = s
sequence (token c) s = token c ⨾ s
sequence (r ⨾ q) s = r ⨾ sequence q s
sequence (r or q) s = (r or q) ⨾ s
sequence (repeated r q) s = repeated r q ⨾ s

-- r or s, where r is not ∅
abbrev pub beside : Rule → Rule → Rule
beside r never = r
beside r empty = r or empty
beside r (token c) = r or token c
beside r (s ⨾ q) = r or s ⨾ q
beside r (s or q) = r or s or q
beside r (repeated s q) = r or repeated s q

-- the one or the other: ∅ is dropped
abbrev pub choice : Rule → Rule → Rule
choice never s = s
choice empty s = beside empty s
choice (token c) s = beside (token c) s
choice (r ⨾ q) s = beside (r ⨾ q) s
choice (r or q) s = beside (r or q) s
choice (repeated r q) s = beside (repeated r q) s

-- the rule, simplified throughout
abbrev pub simplified : Rule → Rule
simplified never = never
simplified empty = empty
simplified (token c) = token c
simplified (r ⨾ s) = sequence (simplified r) (simplified s)
simplified (r or s) = choice (simplified r) (simplified s)
simplified (repeated r s) = repeated (simplified r) (simplified s)

-- the rule of r's trees that yield no token (where no step of r's repeats is such a tree)
abbrev pub blank : Rule → Rule
blank never = never
blank empty = empty
blank (token c) = never
blank (r ⨾ s) = let e = blank s in sequence (blank r) e
blank (r or s) = choice (blank r) (blank s)
blank (repeated r s) = blank s

-- the token's rule less its token
abbrev pub matched : Bool → Rule
matched true = empty
matched false = never

-- what is left of r after a first token of class c
abbrev pub derivative : ℕ → Rule → Rule
derivative c never = never
derivative c empty = never
derivative c (token k) = matched (eqb k c)
derivative c (r ⨾ s) = let d = derivative c s in choice (sequence (derivative c r) s) (sequence (blank r) d)
derivative c (r or s) = choice (derivative c r) (derivative c s)
derivative c (repeated r s) = choice (derivative c s) (sequence (derivative c r) (repeated r s))

-- the rule is ∅
abbrev pub is_never : Rule → Bool
is_never never = true
is_never empty = false
is_never (token c) = false
is_never (r ⨾ s) = false
is_never (r or s) = false
is_never (repeated r s) = false

-- no step of a repeat yields no token
abbrev pub proper : Rule → Bool
proper never = true
proper empty = true
proper (token c) = true
proper (r ⨾ s) = proper r && proper s
proper (r or s) = proper r && proper s
proper (repeated r s) = is_never (blank r) && (proper r && proper s)
