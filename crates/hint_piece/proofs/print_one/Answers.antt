-- The text of the use is followed by the byte that the definition names, and the bound on a use leaves room for it.
-- Assumes nothing.
use Rattle.std.proofs.Common.{ℕ, ◌+◌, ◌*◌, ◌≤◌, ◌<◌, ◌≡◌, rules, refl, length, List, take, drop, ap, sym, ◌∙◌, arith}
use Rattle.hint_form.specs.declared.Piece.{Piece}
use Rattle.hint_form.specs.Hint.{longest}
use Rattle.hint_piece.specs.Followed.{wrote}
use Rattle.hint_piece.specs.Use.{use_text, optional, following, printed}
use Rattle.digit.proofs.Sizes.{Octets, octets_take, octets_drop}
use Rattle.hint_form.proofs.HintLaws.{longest_small}
use Rattle.buffer.proofs.Writing.{wrote_as}
use Rattle.hint_piece.proofs.Bounds.{use_size, octets_size, optional_size}
use Rattle.hint_piece.proofs.Outcomes.{size_of, followed_as, followed_next, followed_joined, followed_fault}
use Rattle.hint_piece.proofs.print_one.Goals as goal

pub returns-in_err-next : goal.returns-in_err-next
unfolding Rattle.hint_piece.specs.Use.one_use
returns-in_err-next c =
    let a = c.args in
    let same : c.from_residual.result ≡ c.print_use.result = search rules in
    let done = followed_as (ap (use_text a.piece.format a.at) c.use_octets-octets.ensures) refl c.in_err-next.ensures in
    followed_as refl (sym (same ∙ c.in_err-next.was))
    (followed_fault (printed (optional (following a.piece a.left a.value.now (a.at + a.piece.size)))) done)

pub overflow_add-at : goal.overflow_add-at
overflow_add-at c = omega (arith, c.requires, longest_small c.args.piece.format)

-- the text of a use has three bytes for each of its octets at most
text_short : (p : Piece) (value : List ℕ) (at : ℕ) → 0 < p.size → p.size ≤ longest p.format → at < length value → Octets value
    → size_of (use_text p.format at (take p.size (drop at value))) ≤ 3 * length (take p.size (drop at value))
text_short p value at some allowed below octets =
    let long = octets_size p.size at value in
    use_size p.format at (take p.size (drop at value)) (omega arith) (omega arith)
    (octets_take p.size (drop at value) (octets_drop at value octets))

pub put_optional-requires : goal.put_optional-requires
put_optional-requires c =
    let a = c.args in
    let q = c.requires in
    let long = octets_size a.piece.size a.at a.value.now in
    let octets : Octets a.value.now = λ (k : ℕ). omega (arith, c.type_inv.value k) in
    let short = text_short a.piece a.value.now a.at q.some q.allowed q.octet octets in
    let done = followed_as (ap (use_text a.piece.format a.at) c.use_octets-octets.ensures) refl c.in_ok-next.ensures in
    omega (arith, q, followed_next done, optional_size c.following-mark.result, c.print_use.auto.out)

pub returns : goal.returns
unfolding Rattle.hint_piece.specs.Use.one_use
returns c =
    let a = c.args in
    let q = c.requires in
    let long = octets_size a.piece.size a.at a.value.now in
    let octets : Octets a.value.now = λ (k : ℕ). omega (arith, c.type_inv.value k) in
    let short = text_short a.piece a.value.now a.at q.some q.allowed q.octet octets in
    let done = followed_as (ap (use_text a.piece.format a.at) c.use_octets-octets.ensures) refl c.in_ok-next.ensures in
    followed_joined (omega (arith, q)) done (wrote (wrote_as (ap optional c.following-mark.ensures) c.put_optional.ensures))
