-- A choice by a test, as the definitions write it.
-- Assumes nothing.
use Rattle.std.specs.Prelude.{Bool, cond}

-- a where the test holds, and b where it does not
infixr 1 when◌then◌else◌
abbrev pub when◌then◌else◌ : {A : Type 0} → Bool → A → A → A
when test then a else b = cond test a b
