-- The numbers of a module: signed, and what they may be. `cs` are the classes of a module's tokens, `vs` their values.
-- Assumes nothing.
use Rattle.std.specs.Prelude.{Bool, true, false, ◌||◌, List, ℕ, ltb, eqb, ℤ, pos, negsuc, neg_ℤ, length, get_or}
use Rattle.std.specs.Int.Signed.{lt_z}
use Rattle.terminal.specs.Terminal.{negative}
use Rattle.symbol.specs.Symbol.{integer, octets, gauge32, unsigned32}
use Rattle.definition.specs.Landmark.{class_at}
use Rattle.definition.specs.declared.Span.{Span}
use Rattle.index.specs.Choice.{when◌then◌else◌}
use Rattle.sub_type.specs.declared.Limits.{Limits}
use Rattle.sub_type.specs.declared.Limits.TheVariants.{Nothing, Integer, Unsigned, Sizes}

-- the number of token i, by its magnitude and its class
abbrev pub number_at : List ℕ → List ℕ → ℕ → ℤ
number_at cs vs i = when eqb (class_at cs i) negative then neg_ℤ (pos (get_or vs i 0)) else pos (get_or vs i 0)

-- two numbers are the same
abbrev pub same_number : ℤ → ℤ → Bool
same_number (pos a) (pos b) = eqb a b
same_number (pos a) (negsuc b) = false
same_number (negsuc a) (pos b) = false
same_number (negsuc a) (negsuc b) = eqb a b

-- a number is outside the limits; `negsuc n` is -(n + 1)
abbrev pub is_outside : Limits → ℤ → Bool
is_outside Nothing z = true
is_outside Integer z = lt_z z (negsuc 2147483647) || lt_z (pos 2147483647) z
is_outside Unsigned z = lt_z z (pos 0) || lt_z (pos 4294967295) z
is_outside Sizes z = lt_z z (pos 0) || lt_z (pos 65535) z

-- what ranges may hold on a class; nothing on a class other than 1, 8, 9
abbrev pub range_limits : ℕ → Limits
range_limits class =
    when eqb class integer then Integer else when eqb class gauge32 then Unsigned else when eqb class unsigned32 then Unsigned else Nothing

-- what sizes may hold on a class; nothing on one other than 3
abbrev pub size_limits : ℕ → Limits
size_limits class = when eqb class octets then Sizes else Nothing

-- where a span of tokens ends, but no further than the tokens go
abbrev pub end_in : List ℕ → Span → ℕ
end_in cs s = when ltb s.to (length cs) then s.to else length cs
