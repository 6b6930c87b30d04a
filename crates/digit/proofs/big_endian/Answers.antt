-- One octet more is read at each turn, and it is below 256.
-- Assumes nothing.
use Rattle.std.proofs.Common.{◌+◌, ◌*◌, ◌^◌, ◌<◌, ◌≡◌, length, get_or, drop, drop-cons, refl, sym, ◌∙◌, add-one, lit<, arith}
use native.Mathlib.Nat.{pow-suc}
use lib.Seq.{drop-length}
use Rattle.digit.specs.Digits.{big_endian}
use Rattle.digit.proofs.DigitLaws.{power_fits}
use Rattle.digit.proofs.big_endian.Goals as goal

pub loop-octet-init : goal.loop-octet-init
loop-octet-init c = (refl, lit< tt)

pub overflow_mul-n : goal.overflow_mul-n
overflow_mul-n c =
    let i = c.loop-octet.octet-index in
    let large = power_fits i (omega arith) in
    omega (arith, pow-suc 256 i)

pub overflow_add-n : goal.overflow_add-n
overflow_add-n c =
    let i = c.loop-octet.octet-index in
    let large = power_fits i (omega arith) in
    omega (arith, pow-suc 256 i, c.type_inv.s i)

pub loop-octet-preserved : goal.loop-octet-preserved
unfolding Rattle.digit.specs.Digits.big_endian
loop-octet-preserved c =
    let i = c.loop-octet.octet-index in
    let n = c.loop-octet.n in
    let s = c.args.s.now in
    let below : i < length s = omega arith in
    let step : big_endian n (drop i s) ≡ big_endian (n * 256 + get_or s i 0) (drop (i + 1) s) =
    rw (add-one, drop-cons s i 0 below) in
    let power : 256 ^ (i + 1) ≡ 256 ^ i * 256 = rw add-one (pow-suc 256 i) in
    (sym step ∙ c.loop-octet.invariant.0, omega (arith, c.type_inv.s i))

pub returns : goal.returns
unfolding Rattle.digit.specs.Digits.big_endian
returns c =
    let end : c.loop-octet.octet-index ≡ length c.args.s.now = omega arith in
    rw (end, drop-length) at c.loop-octet.invariant.0
