-- `put_octets` is right: each byte leaves what is put and what the others write together as they were. Assumes nothing.
use Rattle.std.proofs.Common.{◌≡◌, ◌+◌, get_or, take, sym, ◌∙◌, arith, rules}
use Rattle.words.proofs.OctetLaws.{whole_none, passed, octet_put, no_octets, all_read, stored}
use Rattle.words.proofs.octets.put_octets.Goals as goal
use Rattle.words.proofs.octets.put_octets.Goals.{in-Pass, in-Put}

pub loop-i-init : goal.loop-i-init
loop-i-init c = record { few = omega arith; same = whole_none _ }

pub returns-in_err-then-clause-octets : goal.returns-in_err-then-clause-octets
returns-in_err-then-clause-octets c =
    let word = c.args.word.now in
    let next : c.unwrap_or-next.result ≡ get_or word (c.loop-i.i + 1) 0 = search rules in
    let does = rw next at (sym c.byte_step.ensures ∙ c.in_err-then.was) in
    rw c.from_residual.ensures (no_octets word (take c.loop-i.n c.loop-i.out) _ c.loop-i.i c.loop-i.before (omega arith) c.loop-i.invariant.same does)

pub loop-i-preserved : goal.loop-i-preserved
loop-i-preserved c =
    let word = c.args.word.now in
    let here = c.loop-i in
    let next : c.unwrap_or-next.result ≡ get_or word (here.i + 1) 0 = search rules in
    let does = rw next at (sym c.byte_step.ensures ∙ c.in_ok-then.was) in
    elim c.match-branch-2.branch [
      | in-Pass w ↦ record {
        few = omega (arith, w.n-is);
        same =
            rw (w.n-is, w.before-is, w.out-is)
            (passed word (take here.n here.out) _ here.i here.before (omega arith) here.invariant.same _ (rw w.in-Pass.is at does));
      }
      | in-Put w ↦ record {
        few = omega (arith, w.n-is);
        same =
            rw (w.n-is, w.before-is, w.out-is)
            (rw (stored here.out here.n _ (omega arith))
            (octet_put word (take here.n here.out) _ here.i here.before (omega arith) here.invariant.same _ _ (rw w.in-Put.is at does)));
      }
    ]

pub returns-clause-octets : goal.returns-clause-octets
returns-clause-octets c =
    let word = c.args.word.now in
    all_read word _ _ c.loop-i.i c.loop-i.before (omega arith) (omega arith) c.loop-i.invariant.same
