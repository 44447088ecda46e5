-- What is kept of bytes.
use Rattle.std.proofs.Common.{◌≡◌, ◌≢◌, ℕ, suc, ◌+◌, ◌-◌, ◌<◌, ◌≤◌, List, [], ◌∷◌, ◌++◌, Bool, true, false, cond, take, length}
use Rattle.std.proofs.Common.{refl, sym, ap, subst, ◌∙◌, append_assoc, arith, drop, length-append, ◌||◌}
use Rattle.std.proofs.Math.Seq.{drop-append_seam}
use Rattle.std.proofs.lemmas.List.{length-take}
use Rattle.std.specs.Prelude.{◌==◌, nat_lt, min, zero}
use Rattle.std.proofs.lemmas.Bool.{ltb-true, ltb-false, eqb-true, eqb-false, ne_eqb, lt-ltb, le-ltb}
use Rattle.std.proofs.lemmas.List.Elements.{All-head, All-tail, All-take, All-nil, All-cons}
use Rattle.adya_line.specs.Meaning.Lines.{IsPlain}
use Rattle.ssi_hub.specs.Clauses.Clipping.{has_line, clipped, clipped_after, kept_of_last}

-- what comes in two pieces
pub clips_both : (n : ℕ) (xs ys : List ℕ)
    → clipped_after n (xs ++ ys) ≡ clipped_after n xs ++ clipped_after (kept_of_last n xs) ys
clips_both n [] ys = refl
clips_both n (b ∷ bs) ys = both_after (b == 10) (nat_lt n 4097) n b bs ys (clips_both 0 bs ys) (clips_both (suc n) bs ys) (clips_both n bs ys)
  where
    both_after : (feed room : Bool) (n b : ℕ) (bs ys : List ℕ)
        → clipped_after 0 (bs ++ ys) ≡ clipped_after 0 bs ++ clipped_after (kept_of_last 0 bs) ys
        → clipped_after (suc n) (bs ++ ys) ≡ clipped_after (suc n) bs ++ clipped_after (kept_of_last (suc n) bs) ys
        → clipped_after n (bs ++ ys) ≡ clipped_after n bs ++ clipped_after (kept_of_last n bs) ys
        → cond feed (b ∷ clipped_after 0 (bs ++ ys)) (cond room (b ∷ clipped_after (suc n) (bs ++ ys)) (clipped_after n (bs ++ ys)))
        ≡ cond feed (b ∷ clipped_after 0 bs) (cond room (b ∷ clipped_after (suc n) bs) (clipped_after n bs))
        ++ clipped_after (cond feed (kept_of_last 0 bs) (cond room (kept_of_last (suc n) bs) (kept_of_last n bs))) ys
    both_after true room n b bs ys start more same = ap (λ (l : List ℕ). b ∷ l) start
    both_after false true n b bs ys start more same = ap (λ (l : List ℕ). b ∷ l) more
    both_after false false n b bs ys start more same = same

-- nothing more is left out
pub clips_again : (n : ℕ) (xs : List ℕ) → clipped_after n (clipped_after n xs) ≡ clipped_after n xs
clips_again n [] = refl
clips_again n (b ∷ bs) =
    again_after (b == 10) (nat_lt n 4097) n b bs refl refl (clips_again 0 bs) (clips_again (suc n) bs) (clips_again n bs)
  where
    again_after : (feed room : Bool) (n b : ℕ) (bs : List ℕ) → (b == 10) ≡ feed → nat_lt n 4097 ≡ room
        → clipped_after 0 (clipped_after 0 bs) ≡ clipped_after 0 bs
        → clipped_after (suc n) (clipped_after (suc n) bs) ≡ clipped_after (suc n) bs
        → clipped_after n (clipped_after n bs) ≡ clipped_after n bs
        → clipped_after n (cond feed (b ∷ clipped_after 0 bs) (cond room (b ∷ clipped_after (suc n) bs) (clipped_after n bs)))
        ≡ cond feed (b ∷ clipped_after 0 bs) (cond room (b ∷ clipped_after (suc n) bs) (clipped_after n bs))
    again_after true room n b bs is_feed has_room start more same = rw is_feed (ap (λ (l : List ℕ). b ∷ l) start)
    again_after false true n b bs is_feed has_room start more same = rw (is_feed, has_room) (ap (λ (l : List ℕ). b ∷ l) more)
    again_after false false n b bs is_feed has_room start more same = same

-- and no less of the last line
pub keeps_again : (n : ℕ) (xs : List ℕ) → kept_of_last n (clipped_after n xs) ≡ kept_of_last n xs
keeps_again n [] = refl
keeps_again n (b ∷ bs) =
    again_after (b == 10) (nat_lt n 4097) n b bs refl refl (keeps_again 0 bs) (keeps_again (suc n) bs) (keeps_again n bs)
  where
    again_after : (feed room : Bool) (n b : ℕ) (bs : List ℕ) → (b == 10) ≡ feed → nat_lt n 4097 ≡ room
        → kept_of_last 0 (clipped_after 0 bs) ≡ kept_of_last 0 bs
        → kept_of_last (suc n) (clipped_after (suc n) bs) ≡ kept_of_last (suc n) bs
        → kept_of_last n (clipped_after n bs) ≡ kept_of_last n bs
        → kept_of_last n (cond feed (b ∷ clipped_after 0 bs) (cond room (b ∷ clipped_after (suc n) bs) (clipped_after n bs)))
        ≡ cond feed (kept_of_last 0 bs) (cond room (kept_of_last (suc n) bs) (kept_of_last n bs))
    again_after true room n b bs is_feed has_room start more same = rw is_feed start
    again_after false true n b bs is_feed has_room start more same = rw (is_feed, has_room) more
    again_after false false n b bs is_feed has_room start more same = same

-- of what was left out nothing comes back
pub clips_pieces : (xs ys : List ℕ) → clipped (clipped xs ++ ys) ≡ clipped (xs ++ ys)
clips_pieces xs ys =
    clips_both 0 (clipped xs) ys
    ∙ ap (λ (l : List ℕ). l ++ clipped_after (kept_of_last 0 (clipped xs)) ys) (clips_again 0 xs)
    ∙ ap (λ n. clipped xs ++ clipped_after n ys) (keeps_again 0 xs)
    ∙ sym (clips_both 0 xs ys)

-- ---- bytes without a line feed

not_feed : (b : ℕ) (bs : List ℕ) → IsPlain (b ∷ bs) → (b == 10) ≡ false
not_feed b bs plain = ne_eqb b 10 (All-head (λ x. x ≢ 10) b bs plain)

plain_rest : (b : ℕ) (bs : List ℕ) → IsPlain (b ∷ bs) → IsPlain bs
plain_rest b bs plain = All-tail (λ x. x ≢ 10) b bs plain

take_none : (k : ℕ) → k ≡ 0 → (xs : List ℕ) → take k xs ≡ []
take_none k is xs = rw is refl

take_empty : (k : ℕ) (xs : List ℕ) → xs ≡ [] → take k xs ≡ []
take_empty zero xs is = refl
take_empty (suc k) [] is = refl
take_empty (suc k) (x ∷ xs) is = cc

pub plain_clipped : (n : ℕ) (xs : List ℕ) → IsPlain xs → clipped_after n xs ≡ take (4097 - n) xs
plain_clipped n [] plain = sym (take_empty (4097 - n) [] refl)
plain_clipped n (b ∷ bs) plain =
    rw (not_feed b bs plain) (taken (nat_lt n 4097) n b bs refl (plain_clipped (suc n) bs (plain_rest b bs plain)) (plain_clipped n bs (plain_rest b bs plain)))
  where
    taken : (room : Bool) (n b : ℕ) (bs : List ℕ) → nat_lt n 4097 ≡ room → clipped_after (suc n) bs ≡ take (4097 - suc n) bs
        → clipped_after n bs ≡ take (4097 - n) bs
        → cond room (b ∷ clipped_after (suc n) bs) (clipped_after n bs) ≡ take (4097 - n) (b ∷ bs)
    taken true n b bs has_room more same =
        let below : n < 4097 = ltb-true n 4097 has_room in
        let one : 4097 - n ≡ suc (4097 - suc n) = omega arith in
        rw one (ap (λ (l : List ℕ). b ∷ l) more)
    taken false n b bs has_room more same =
        let above : 4097 ≤ n = ltb-false n 4097 has_room in
        let none : 4097 - n ≡ 0 = omega arith in
        same ∙ take_none (4097 - n) none bs ∙ sym (take_none (4097 - n) none (b ∷ bs))

pub plain_kept : (n : ℕ) (xs : List ℕ) → IsPlain xs → kept_of_last n xs ≡ n + min (length xs) (4097 - n)
plain_kept n [] plain = omega arith
plain_kept n (b ∷ bs) plain =
    rw (not_feed b bs plain) (counted (nat_lt n 4097) n b bs refl (plain_kept (suc n) bs (plain_rest b bs plain)) (plain_kept n bs (plain_rest b bs plain)))
  where
    counted : (room : Bool) (n b : ℕ) (bs : List ℕ) → nat_lt n 4097 ≡ room
        → kept_of_last (suc n) bs ≡ suc n + min (length bs) (4097 - suc n)
        → kept_of_last n bs ≡ n + min (length bs) (4097 - n)
        → cond room (kept_of_last (suc n) bs) (kept_of_last n bs) ≡ n + min (suc (length bs)) (4097 - n)
    counted true n b bs has_room more same = let below : n < 4097 = ltb-true n 4097 has_room in omega (arith, more)
    counted false n b bs has_room more same = let above : 4097 ≤ n = ltb-false n 4097 has_room in omega (arith, same)

take_min : (k : ℕ) (xs : List ℕ) → take (min (length xs) k) xs ≡ take k xs
take_min zero xs =
    let none : min (length xs) zero ≡ zero = omega arith in
    ap (λ n. take n xs) none
take_min (suc k) [] =
    take_empty (min (length {A = ℕ} []) (suc k)) [] refl ∙ sym (take_empty (suc k) [] refl)
take_min (suc k) (b ∷ bs) =
    let one : min (suc (length bs)) (suc k) ≡ suc (min (length bs) k) = omega arith in
    ap (λ n. take n (b ∷ bs)) one ∙ ap (λ (l : List ℕ). b ∷ l) (take_min k bs)

-- as many as fit are kept
pub plain_part : (n : ℕ) (xs : List ℕ) → IsPlain xs → take (min (length xs) (4097 - n)) xs ≡ clipped_after n xs
plain_part n xs plain = take_min (4097 - n) xs ∙ sym (plain_clipped n xs plain)

-- ---- bytes that are added

pub kept_both : (n : ℕ) (xs ys : List ℕ) → kept_of_last n (xs ++ ys) ≡ kept_of_last (kept_of_last n xs) ys
kept_both n [] ys = refl
kept_both n (b ∷ bs) ys =
    both_after (b == 10) (nat_lt n 4097) n bs ys (kept_both 0 bs ys) (kept_both (suc n) bs ys) (kept_both n bs ys)
  where
    both_after : (feed room : Bool) (n : ℕ) (bs ys : List ℕ)
        → kept_of_last 0 (bs ++ ys) ≡ kept_of_last (kept_of_last 0 bs) ys
        → kept_of_last (suc n) (bs ++ ys) ≡ kept_of_last (kept_of_last (suc n) bs) ys
        → kept_of_last n (bs ++ ys) ≡ kept_of_last (kept_of_last n bs) ys
        → cond feed (kept_of_last 0 (bs ++ ys)) (cond room (kept_of_last (suc n) (bs ++ ys)) (kept_of_last n (bs ++ ys)))
        ≡ kept_of_last (cond feed (kept_of_last 0 bs) (cond room (kept_of_last (suc n) bs) (kept_of_last n bs))) ys
    both_after true room n bs ys start more same = start
    both_after false true n bs ys start more same = more
    both_after false false n bs ys start more same = same

-- a line and its line feed were added
pub clips_line : (to new : List ℕ) (n : ℕ) (bytes line after : List ℕ) → bytes ≡ line ++ (10 ∷ after)
    → new ≡ to ++ clipped_after n line → (new ++ 10 ∷ []) ++ clipped_after 0 after ≡ to ++ clipped_after n bytes
clips_line to new n bytes line after is grown =
    append_assoc new (10 ∷ []) (clipped_after 0 after)
    ∙ ap (λ (l : List ℕ). l ++ (10 ∷ clipped_after 0 after)) grown
    ∙ append_assoc to (clipped_after n line) (10 ∷ clipped_after 0 after)
    ∙ ap (λ (l : List ℕ). to ++ l) (sym (clips_both n line (10 ∷ after)) ∙ ap (λ (l : List ℕ). clipped_after n l) (sym is))

pub keeps_line : (n : ℕ) (bytes line after : List ℕ) → bytes ≡ line ++ (10 ∷ after)
    → kept_of_last 0 after ≡ kept_of_last n bytes
keeps_line n bytes line after is =
    sym (kept_both n line (10 ∷ after)) ∙ ap (λ (l : List ℕ). kept_of_last n l) (sym is)

pub grows_more : (first to new more : List ℕ) → (added : List ℕ) × (to ≡ first ++ added) → new ≡ to ++ more
    → (added : List ℕ) × (new ≡ first ++ added)
grows_more first to new more before now =
    (before.0 ++ more, now ∙ ap (λ (l : List ℕ). l ++ more) before.1 ∙ append_assoc first before.0 more)

-- ---- what waits

-- what waits, and more
pub clips_more : (waiting bytes : List ℕ) → clipped waiting ≡ waiting
    → waiting ++ clipped_after (kept_of_last 0 waiting) bytes ≡ clipped (waiting ++ bytes)
clips_more waiting bytes whole =
    ap (λ (l : List ℕ). l ++ clipped_after (kept_of_last 0 waiting) bytes) (sym whole) ∙ sym (clips_both 0 waiting bytes)

-- bytes were added behind what waits
pub inbox_grows : (waiting now bytes : List ℕ) (unfinished n : ℕ) → clipped waiting ≡ waiting
    → unfinished ≡ kept_of_last 0 waiting → now ≡ waiting ++ clipped_after unfinished bytes
    → n ≡ kept_of_last unfinished bytes
    → (now ≡ clipped (waiting ++ bytes)) × (clipped now ≡ now) × (n ≡ kept_of_last 0 now)
inbox_grows waiting now bytes unfinished n whole last grown counted =
    let is : now ≡ clipped (waiting ++ bytes) =
    grown ∙ ap (λ m. waiting ++ clipped_after m bytes) last ∙ clips_more waiting bytes whole in (
      is,
      ap (λ (l : List ℕ). clipped l) is ∙ clips_again 0 (waiting ++ bytes) ∙ sym is,
      counted ∙ ap (λ m. kept_of_last m bytes) last ∙ sym (kept_both 0 waiting bytes)
          ∙ sym (keeps_again 0 (waiting ++ bytes)) ∙ ap (λ (l : List ℕ). kept_of_last 0 l) (sym is),
    )

-- ---- whole lines

same_head : (x y : ℕ) (xs ys : List ℕ) → x ∷ xs ≡ y ∷ ys → x ≡ y
same_head x y xs ys e = cc

same_tail : (x y : ℕ) (xs ys : List ℕ) → x ∷ xs ≡ y ∷ ys → xs ≡ ys
same_tail x y xs ys e = cc

-- bytes have one cut at their first line feed
pub one_cut : (xs ys qs bs : List ℕ) → IsPlain xs → IsPlain qs → xs ++ (10 ∷ ys) ≡ qs ++ (10 ∷ bs)
    → (xs ≡ qs) × (ys ≡ bs)
one_cut [] ys [] bs p q e = (refl, same_tail _ _ _ _ e)
one_cut [] ys (a ∷ qs) bs p q e = absurd (All-head (λ x. x ≢ 10) a qs q (sym (same_head _ _ _ _ e)))
one_cut (x ∷ xs) ys [] bs p q e = absurd (All-head (λ x. x ≢ 10) x xs p (same_head _ _ _ _ e))
one_cut (x ∷ xs) ys (a ∷ qs) bs p q e =
    let rest = one_cut xs ys qs bs (plain_rest x xs p) (plain_rest a qs q) (same_tail _ _ _ _ e) in
    (cc, rest.1)

pub plain_take : (n : ℕ) (xs : List ℕ) → IsPlain xs → IsPlain (take n xs)
plain_take n xs plain = All-take (λ x. x ≢ 10) n xs plain

-- of a whole line the first bytes are kept, and its line feed
pub line_clipped : (line rest : List ℕ) → IsPlain line
    → clipped (line ++ (10 ∷ rest)) ≡ take 4097 line ++ (10 ∷ clipped rest)
line_clipped line rest plain =
    clips_both 0 line (10 ∷ rest)
    ∙ ap (λ (l : List ℕ). l ++ (10 ∷ clipped rest)) (plain_clipped 0 line plain)

-- after a whole line
pub rest_clipped : (waiting line rest : List ℕ) → clipped waiting ≡ waiting → IsPlain line
    → waiting ≡ line ++ (10 ∷ rest) → clipped rest ≡ rest
rest_clipped waiting line rest whole plain is =
    let both : take 4097 line ++ (10 ∷ clipped rest) ≡ line ++ (10 ∷ rest) =
    sym (line_clipped line rest plain) ∙ ap (λ (l : List ℕ). clipped l) (sym is) ∙ whole ∙ is in
    (one_cut (take 4097 line) (clipped rest) line rest (plain_take 4097 line plain) plain both).1

pub past_line : (waiting line rest : List ℕ) (len : ℕ) → waiting ≡ line ++ (10 ∷ rest) → len ≡ length line
    → drop 1 (drop len waiting) ≡ rest
past_line waiting line rest len is counted =
    ap (λ (l : List ℕ). drop 1 l)
    (ap (λ n. drop n waiting) counted ∙ ap (λ (l : List ℕ). drop (length line) l) is ∙ drop-append_seam line (10 ∷ rest))

pub pass_keeps : (waiting now : List ℕ) (len unfinished : ℕ)
    → ((line : List ℕ) × (rest : List ℕ) × IsPlain line × (waiting ≡ line ++ (10 ∷ rest)) × (len ≡ length line))
    → clipped waiting ≡ waiting → unfinished ≡ kept_of_last 0 waiting → now ≡ drop 1 (drop len waiting)
    → (clipped now ≡ now) × (unfinished ≡ kept_of_last 0 now)
pass_keeps waiting now len unfinished (line, rest, plain, is, counted) whole last left =
    let same : now ≡ rest = left ∙ past_line waiting line rest len is counted in (
      subst (λ (l : List ℕ). clipped l ≡ l) (sym same) (rest_clipped waiting line rest whole plain is),
      last ∙ sym (keeps_line 0 waiting line rest is) ∙ ap (λ (l : List ℕ). kept_of_last 0 l) (sym same),
    )

-- ---- whether a whole line waits

kept_le : (n : ℕ) (xs : List ℕ) → kept_of_last n xs ≤ n + length xs
kept_le n [] = omega arith
kept_le n (b ∷ bs) = le_after (b == 10) (nat_lt n 4097) n bs (kept_le 0 bs) (kept_le (suc n) bs) (kept_le n bs)
  where
    le_after : (feed room : Bool) (n : ℕ) (bs : List ℕ) → kept_of_last 0 bs ≤ 0 + length bs
        → kept_of_last (suc n) bs ≤ suc n + length bs → kept_of_last n bs ≤ n + length bs
        → cond feed (kept_of_last 0 bs) (cond room (kept_of_last (suc n) bs) (kept_of_last n bs)) ≤ n + suc (length bs)
    le_after true room n bs start more same = omega (arith, start)
    le_after false true n bs start more same = omega (arith, more)
    le_after false false n bs start more same = omega (arith, same)

pub feed_at : (xs : List ℕ) → has_line xs ≡ true → (line : List ℕ) × (rest : List ℕ) × (xs ≡ line ++ (10 ∷ rest))
feed_at [] has = cc
feed_at (b ∷ bs) has = at_or_after (b == 10) b bs refl has (λ later. feed_at bs later)
  where
    at_or_after : (feed : Bool) (b : ℕ) (bs : List ℕ) → (b == 10) ≡ feed → feed || has_line bs ≡ true
        → (has_line bs ≡ true → (line : List ℕ) × (rest : List ℕ) × (bs ≡ line ++ (10 ∷ rest)))
        → (line : List ℕ) × (rest : List ℕ) × (b ∷ bs ≡ line ++ (10 ∷ rest))
    at_or_after true b bs is has later = ([], bs, ap (λ x. x ∷ bs) (eqb-true b 10 is))
    at_or_after false b bs is has later =
        let (line, rest, same) = later has in (b ∷ line, rest, ap (λ (l : List ℕ). b ∷ l) same)

pub plain_without : (xs : List ℕ) → has_line xs ≡ false → IsPlain xs
plain_without [] none = All-nil (λ x. x ≢ 10)
plain_without (b ∷ bs) none =
    let parts = neither (b == 10) (has_line bs) none in
    All-cons (λ x. x ≢ 10) b bs (eqb-false b 10 parts.0) (plain_without bs parts.1)
  where
    neither : (a b : Bool) → a || b ≡ false → (a ≡ false) × (b ≡ false)
    neither true b e = cc
    neither false b e = (refl, e)

pub take_few : (n : ℕ) (xs : List ℕ) → length (take n xs) ≤ n
take_few n xs = omega (arith, length-take n xs)

pub waits_so : (waiting : List ℕ) (unfinished len : ℕ) → clipped waiting ≡ waiting → unfinished ≡ kept_of_last 0 waiting
    → len ≡ length waiting → nat_lt unfinished len ≡ has_line waiting
waits_so waiting unfinished len whole last counted = by_line (has_line waiting) refl
  where
    by_line : (has : Bool) → has_line waiting ≡ has → nat_lt unfinished len ≡ has_line waiting
    by_line true has =
        let (line, rest, is) = feed_at waiting has in
        let long : length waiting ≡ length line + suc (length rest) = ap (λ (l : List ℕ). length l) is ∙ length-append line (10 ∷ rest) in
        let few : kept_of_last 0 waiting ≤ 0 + length rest = subst (λ n. n ≤ 0 + length rest) (keeps_line 0 waiting line rest is) (kept_le 0 rest) in
        let below : unfinished < len = omega (arith, long, few, last, counted) in
        lt-ltb unfinished len below ∙ sym has
    by_line false none =
        let plain = plain_without waiting none in
        let short : length waiting ≤ 4097 = subst (λ n. n ≤ 4097) (ap (λ (l : List ℕ). length l) (sym (plain_clipped 0 waiting plain) ∙ whole)) (take_few 4097 waiting) in
        let all : kept_of_last 0 waiting ≡ 0 + min (length waiting) (4097 - 0) = plain_kept 0 waiting plain in
        let above : len ≤ unfinished = omega (arith, short, all, last, counted) in
        le-ltb unfinished len above ∙ sym none

-- the first line
pub first_feed : (xs : List ℕ) → has_line xs ≡ true
    → (line : List ℕ) × (rest : List ℕ) × IsPlain line × (xs ≡ line ++ (10 ∷ rest))
first_feed [] has = cc
first_feed (b ∷ bs) has = at_or_after (b == 10) b bs refl has (λ later. first_feed bs later)
  where
    at_or_after : (feed : Bool) (b : ℕ) (bs : List ℕ) → (b == 10) ≡ feed → feed || has_line bs ≡ true
        → (has_line bs ≡ true → (line : List ℕ) × (rest : List ℕ) × IsPlain line × (bs ≡ line ++ (10 ∷ rest)))
        → (line : List ℕ) × (rest : List ℕ) × IsPlain line × (b ∷ bs ≡ line ++ (10 ∷ rest))
    at_or_after true b bs is has later = ([], bs, All-nil (λ x. x ≢ 10), ap (λ x. x ∷ bs) (eqb-true b 10 is))
    at_or_after false b bs is has later =
        let (line, rest, plain, same) = later has in (
          b ∷ line,
          rest,
          All-cons (λ x. x ≢ 10) b line (eqb-false b 10 is) plain,
          ap (λ (l : List ℕ). b ∷ l) same,
        )

pub plain_has_none : (xs : List ℕ) → IsPlain xs → has_line xs ≡ false
plain_has_none [] plain = refl
plain_has_none (b ∷ bs) plain = rw (not_feed b bs plain) (plain_has_none bs (plain_rest b bs plain))
