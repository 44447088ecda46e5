use Rattle.std.proofs.Common.{◌≡◌, ◌≤◌, length, take, sym, ◌∙◌, ap, subst}
use Rattle.ssi_reads.specs.Machinery.Prefixes.{prefix_of, shared}
use Rattle.ssi_reads.proofs.Prefixes.{shared_within, range_begins}
use Rattle.ssi_reads.proofs.place.Place.new.Goals as goal

pub prefix-requires : goal.prefix-requires
prefix-requires c =
    let low : c.bytes.result.now ≡ c.args.low = c.bytes.ensures.same in
    record {
      within = subst (λ (xs : _). c.shared_len-len.result ≤ length xs) low
          (subst (λ n. n ≤ length c.bytes.result.now) (sym c.shared_len-len.ensures) (shared_within c.bytes.result.now c.bytes-2.result.now).0);
    }

pub returns : goal.returns
returns c k =
    range_begins c.args.low c.args.high k c.prefix.result
    (c.prefix.ensures ∙ ap (λ n. prefix_of (take n c.args.low)) (c.shared_len-len.ensures ∙
    (ap (λ xs. length (shared xs c.bytes-2.result.now)) c.bytes.ensures.same ∙ ap (λ ys. length (shared c.args.low ys)) c.bytes-2.ensures.same)))
