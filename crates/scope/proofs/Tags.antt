-- The bytes that a tag reads, and the tags of names that are the same; the names of definitions laid into words, two at a time.
-- Assumes nothing.
use mathlib.Core.Path.{◌≡◌, sym, ap, ◌∙◌}
use mathlib.Core.Bool.{false}
use mathlib.Core.List.{List}
use Prim.Native.Nat.{ℕ, ◌+◌, ◌-◌, ◌*◌, ◌≤◌, ◌<◌}
use native.Mathlib.Decide.{ℕ_discrete}
use native.Mathlib.Omega.{arith}
use lib.ListN.{length, get_or, set, length-set}
use lib.Seq.{get_or-set_same, get_or-set_other}
use Rattle.index.proofs.Search.{answers}
use Rattle.lexicon.specs.Word.{same, between, Within}
use Rattle.lexicon.proofs.Words.{same_equal, between_length, between_byte}
use Rattle.token.specs.Token.{Meaning}
use Rattle.definition.specs.Landmark.{definitions}
use Rattle.scope.specs.Token.{classes_of, spelled}
use Rattle.scope.specs.Tag.{name_words, name_tag, NamesHeld}

-- the byte of a part of the text that stands so many before its end
module _ (t : List ℕ) (start end back : ℕ) (w : Within t start end) where
  abbrev byte_at : ℕ → ℕ
  byte_at n = get_or (between t start end) (n - back) 0

  pub no_byte : start ≡ end → 0 ≡ get_or (between t start end) (length (between t start end) - back) 0
  no_byte e = let n : end - start ≡ 0 = omega arith in rw n

  pub first_byte : (start ≡ end → ⊥) → end - start < back → get_or t start 0 ≡ get_or (between t start end) (length (between t start end) - back) 0
  first_byte some few =
      sym (ap byte_at (between_length t start end w)
      ∙ between_byte t start end (end - start - back) start (omega arith) (omega (arith, w.ordered, some)))

  pub byte_back : (start ≡ end → ⊥) → 1 ≤ back → back ≤ end - start
      → get_or t (end - back) 0 ≡ get_or (between t start end) (length (between t start end) - back) 0
  byte_back some one enough =
      sym (ap byte_at (between_length t start end w)
      ∙ between_byte t start end (end - start - back) (end - back) (omega (arith, w.ordered)) (omega (arith, w.ordered)))

-- names of different tags differ
pub other_tag : (s t : List ℕ) → (name_tag s ≡ name_tag t → ⊥) → false ≡ same s t
other_tag s t other = sym (answers (same s t) (λ e. absurd (other (ap name_tag (same_equal s t e)))) (λ e. e))

-- ---- the names of the definitions, laid one after the other

-- those of the first k are laid
pub record Laid (ms : List Meaning) (k : ℕ) (names : List ℕ) : Type 0 where
  pub tag : (j : ℕ) → j < k → get_or names (j * name_words) 0 ≡ name_tag (spelled ms (get_or (definitions (classes_of ms)) j 0))
  pub token : (j : ℕ) → j < k → get_or names (j * name_words + 1) 0 ≡ get_or (definitions (classes_of ms)) j 0

module _ (ms : List Meaning) (names : List ℕ) where
  pub laid_none : Laid ms 0 names
  laid_none = record { tag = λ j h. absurd (omega arith); token = λ j h. absurd (omega arith) }

  pub laid_all : (k : ℕ) → length names ≡ length (definitions (classes_of ms)) * name_words → length (definitions (classes_of ms)) ≤ k → Laid ms k names
      → NamesHeld ms names
  laid_all k long all l = record { counted = long; tag = λ j h. l.tag j (omega arith); token = λ j h. l.token j (omega arith) }

  module _ (k tag token : ℕ) (l : Laid ms k names) (room : k * name_words + 1 < length names) where
    pub laid_next : tag ≡ name_tag (spelled ms (get_or (definitions (classes_of ms)) k 0)) → token ≡ get_or (definitions (classes_of ms)) k 0
        → Laid ms (k + 1) (set (set names (k * name_words) tag) (k * name_words + 1) token)
    laid_next is-tag is-token = record { tag = λ j h. tags j h (ℕ_discrete j k); token = λ j h. tokens j h (ℕ_discrete j k) }
      where
        tagged : List ℕ
        tagged = set names (k * name_words) tag

        tags : (j : ℕ) → j < k + 1 → Dec (j ≡ k)
            → get_or (set (set names (k * name_words) tag) (k * name_words + 1) token) (j * name_words) 0
            ≡ name_tag (spelled ms (get_or (definitions (classes_of ms)) j 0))
        tags j h (yes same) =
            rw same (get_or-set_other (set names (k * name_words) tag) (k * name_words + 1) (k * name_words) token 0 (omega arith)
            ∙ get_or-set_same names (k * name_words) tag 0 (omega arith) ∙ is-tag)
        tags j h (no other) =
            get_or-set_other (set names (k * name_words) tag) (k * name_words + 1) (j * name_words) token 0 (λ e. omega arith)
            ∙ get_or-set_other names (k * name_words) (j * name_words) tag 0 (λ e. other (omega arith)) ∙ l.tag j (omega arith)

        tokens : (j : ℕ) → j < k + 1 → Dec (j ≡ k)
            → get_or (set (set names (k * name_words) tag) (k * name_words + 1) token) (j * name_words + 1) 0 ≡ get_or (definitions (classes_of ms)) j 0
        tokens j h (yes same) =
            rw same (get_or-set_same (set names (k * name_words) tag) (k * name_words + 1) token 0 (omega (arith, length-set names (k * name_words) tag))
            ∙ is-token)
        tokens j h (no other) =
            get_or-set_other (set names (k * name_words) tag) (k * name_words + 1) (j * name_words + 1) token 0 (λ e. other (omega arith))
            ∙ get_or-set_other names (k * name_words) (j * name_words + 1) tag 0 (λ e. omega arith) ∙ l.token j (omega arith)
