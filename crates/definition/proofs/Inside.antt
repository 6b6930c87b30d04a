-- Where the spans of a definition lie, whatever its tokens are: what follows a word lies after it, and no search passes the end.
-- Assumes nothing.
use mathlib.Core.Path.{◌≡◌, refl}
use mathlib.Core.Bool.{Bool, true, false, cond}
use mathlib.Core.List.{List}
use Prim.Native.Nat.{ℕ, ◌+◌, ◌≤◌, ◌<◌}
use native.Mathlib.Decide.{dec_lt}
use native.Mathlib.Omega.{arith}
use borrow.Author.Tests.{ltb-true}
use lib.Dec.{ltb, eqb}
use Rattle.index.specs.First.{first}
use Rattle.index.proofs.Search.{first_inside, first_none}
use Rattle.terminal.specs.Terminal.{right_brace, assign, SYNTAX}
use Rattle.definition.specs.Landmark.{class_at, kind_at, has_oid}
use Rattle.definition.specs.declared.Span.{Span}
use Rattle.definition.specs.Fields.{span, nowhere, braced_at, ends_syntax, syntax_span, syntax_behind, oid_span}

-- the span's tokens are some of those from d up to e
pub record Inside (d e : ℕ) (s : Span) : Type 0 where
  pub starts : d ≤ s.from
  pub ordered : s.from ≤ s.to
  pub ends : s.to ≤ e

module _ (test : ℕ → Bool) where
  -- the first index is not before the start, nor past the end, unless the start is
  pub first_from : (a b : ℕ) → a ≤ first test a b
  first_from a b = go (dec_lt b a)
    where
      go : Dec (b < a) → a ≤ first test a b
      go (yes h) = omega (arith, first_none test a b (omega arith))
      go (no h) = (first_inside test a b (omega arith)).0

  pub first_to : (a b m : ℕ) → a ≤ m → b ≤ m → first test a b ≤ m
  first_to a b m l h = go (dec_lt b a)
    where
      go : Dec (b < a) → first test a b ≤ m
      go (yes g) = omega (arith, first_none test a b (omega arith))
      go (no g) = omega (arith, (first_inside test a b (omega arith)).1)

module _ (cs : List ℕ) (d e : ℕ) (fits : d ≤ e) where
  none_inside : (m : ℕ) → e ≤ m → Inside d m (nowhere e)
  none_inside m l = record { starts = fits; ordered = omega arith; ends = l }

  -- one of two spans that lie inside
  either : {m : ℕ} {s t : Span} (b : Bool) → (b ≡ true → Inside d m s) → (b ≡ false → Inside d m t) → Inside d m (cond b s t)
  either true f g = f refl
  either false f g = g refl

  -- what stands k tokens after a word and further, up to where a test holds
  after_word : (word test : ℕ → Bool) (k m : ℕ) → e ≤ m → e + k ≤ m + 1
      → Inside d m (cond (ltb (first word d e) e) (span (first word d e + k) (first test (first word d e + k) e)) (nowhere e))
  after_word word test k m l h =
      either (ltb w e)
      (λ t.
      let below : w < e = ltb-true w e t in
      record {
        starts = omega (arith, first_from word d e);
        ordered = first_from test (w + k) e;
        ends = first_to test (w + k) e m (omega arith) l;
      })
      (λ t. none_inside m l)
    where
      w : ℕ
      w = first word d e

  pub syntax_inside : Inside d e (syntax_span cs d e)
  unfolding syntax_behind
  syntax_inside =
      after_word (λ (i : ℕ). eqb (class_at cs i) SYNTAX) (ends_syntax cs) 1 e (omega arith) (omega arith)

  -- the brace after `::=` may be the token at the end, and then its span ends behind it
  pub oid_inside : Inside d (e + 1) (oid_span cs d e)
  unfolding oid_span braced_at
  oid_inside =
      either (has_oid (kind_at cs d))
      (λ t.
      after_word (λ (i : ℕ). eqb (class_at cs i) assign) (λ (i : ℕ). eqb (class_at cs i) right_brace) 2 (e + 1) (omega arith) (omega arith))
      (λ t. none_inside (e + 1) (omega arith))
