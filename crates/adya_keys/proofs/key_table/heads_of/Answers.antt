use Rattle.std.proofs.Common.{◌∙◌, ◌+◌, ◌<◌, ◌≡◌, [], ap, arith, length, refl, set, slice_index, subst, suc, sym}
use Rattle.std.proofs.lemmas.List.{length-replicate, length-set}
use Rattle.std.proofs.lemmas.Result.{IfOk-from_err, MatchResult-from_err}
use Rattle.std.proofs.lemmas.Option.{get_or_from_slice_get}
use Rattle.adya_keys.specs.Machinery.KeyHash.{bucket_of}
use Rattle.adya_keys.specs.Machinery.Buckets.{place_in, AreChained}
use Rattle.adya_keys.specs.Machinery.Within.{key_at}
use Rattle.adya_keys.specs.Machinery.Parts.{parts_of}
use Rattle.adya_keys.proofs.KeyChains.{none_chained, one_more_chained}
use Rattle.adya_keys.proofs.key_table.heads_of.Goals as goal

pub returns-in_err-heads : goal.returns-in_err-heads
returns-in_err-heads c =
    let r = c.from_residual.result in
    let e = c.from_residual.ensures.0 in
    record {
      chained = IfOk-from_err r _ e;
      buckets = IfOk-from_err r _ e;
      count = refl;
      len = refl;
      capacity = refl;
      err = MatchResult-from_err r _ _ e (λ _. refl);
    }

pub loop-number-init : goal.loop-number-init
loop-number-init c =
    let ks = parts_of c.args.texts.now in
    let made = c.in_ok-heads.ensures.items_if_clones_equal (λ n e. e) in
    record {
      chained = subst (λ hs. AreChained ks hs c.args.next.now.items 0) (sym made) (none_chained ks c.args.next.now.items c.args.buckets);
      buckets = ap length made ∙ length-replicate c.args.buckets 0;
      count = refl;
      len = refl;
      capacity = refl;
    }

pub at-requires : goal.at-requires
at-requires c = subst (λ n. c.loop-number.number < n) c.len-number-end.ensures.length c.loop-number-test.true

pub chain-requires-clause-bucket : goal.chain-requires-clause-bucket
chain-requires-clause-bucket c = subst (λ n. c.bucket_of-bucket.result < n) (sym c.loop-number.invariant.buckets) c.bucket_of-bucket.ensures.within

pub chain-requires-clause-number : goal.chain-requires-clause-number
chain-requires-clause-number c =
    subst (λ n. c.loop-number.number < n) (c.len-number-end.ensures.length ∙ sym (c.loop-number.invariant.count ∙ c.requires.count)) c.loop-number-test.true

pub chain-requires-clause-room : goal.chain-requires-clause-room
chain-requires-clause-room c = omega (arith, c.requires.few_keys, c.len-number-end.ensures.length, c.loop-number-test.true)

pub loop-number-preserved : goal.loop-number-preserved
loop-number-preserved c =
    let ks = parts_of c.args.texts.now in
    let n = c.loop-number.number in
    let hs = c.loop-number.heads.items in
    let before = c.loop-number.next.items in
    let b = c.bucket_of-bucket.result in
    let i = c.loop-number.invariant in
    let same = i.buckets in
    let within = c.bucket_of-bucket.ensures.within in
    let less : b < length hs = omega (arith, within, same) in
    let place : b ≡ place_in ks (length hs) n =
    c.bucket_of-bucket.ensures.value ∙
    (ap (bucket_of c.args.buckets) (sym (get_or_from_slice_get ks n c.at.result.now [] c.at.ensures)) ∙
    ap (λ m. bucket_of m (key_at ks n)) (sym same)) in
    let turn = c.loop-number-test.true in
    let counted = i.count in
    let counts : length c.args.next.now.items ≡ length ks = c.requires.count in
    let room : n < length before = omega (arith, turn, c.len-number-end.ensures.length, counted, counts) in
    let next : suc n ≡ n + 1 = omega arith in
    record {
      chained = rw (c.chain.ensures.heads, c.chain.ensures.next)
          (subst (AreChained ks (set hs b (suc n)) (set before n (slice_index hs b))) next (one_more_chained ks hs before n i.chained b place less room));
      buckets = ap length c.chain.ensures.heads ∙ (length-set hs b _ ∙ same);
      count = ap length c.chain.ensures.next ∙ (length-set before n _ ∙ i.count);
      len = c.chain.ensures.len ∙ i.len;
      capacity = c.chain.ensures.capacity ∙ i.capacity;
    }

pub returns : goal.returns
returns c =
    let ks = parts_of c.args.texts.now in
    let all : c.loop-number.number ≡ length ks =
    omega (arith, c.loop-number-test.false, c.loop-number.auto.number-end, c.len-number-end.ensures.length) in
    record {
      chained = subst (AreChained ks c.loop-number.heads.items c.loop-number.next.items) all c.loop-number.invariant.chained;
      buckets = c.loop-number.invariant.buckets;
      count = c.loop-number.invariant.count;
      len = c.loop-number.invariant.len;
      capacity = c.loop-number.invariant.capacity;
      err = tt;
    }
