-- Bytes that are added to a draft, call by call.
use Rattle.std.proofs.Common.{◌≡◌, ℕ, ◌<◌, List, [], ◌∷◌, ◌++◌, length, Bool, true, false, Option, Result, Ok, Err}
use Rattle.std.proofs.Common.{refl, sym, ap, subst, ◌∙◌, append_assoc, append-nil, arith}
use Rattle.std.specs.Prelude.{IsErr, OnOk, OnErr}
use Rattle.std.specs.Io.KnownBytes.{Appends}
use Rattle.std.proofs.KnownBytes.{Appends-nil, Appends-trans}
use Rattle.devices.specs.declared.watched.Watched.{Watched}
use Rattle.devices.specs.Mirror.{has_failed, watched_contents}
use Rattle.devices.specs.Clauses.Writing.{Grew, Wrote, Broke}
use Rattle.ssi_line.specs.Machinery.Drafts.{Added}
use Rattle.ssi_line.specs.Clauses.Answers.{Said}

both : {A : Type 0} (b : Bool) → (b ≡ true → A) → (b ≡ false → A) → A
both true one other = one refl
both false one other = other refl

apart : {A : Type 0} (b : Bool) → b ≡ true → b ≡ false → A
apart true is not = absurd (cc (not))
apart false is not = absurd (cc (is))

-- what was left of the first bytes goes before the next
joined : (a xs ys front b front2 c : List ℕ) → a ++ xs ≡ front ++ b → b ++ ys ≡ front2 ++ c
    → a ++ (xs ++ ys) ≡ (front ++ front2) ++ c
joined a xs ys front b front2 c first second =
    sym (append_assoc a xs ys) ∙ ap (λ l. l ++ ys) first ∙ append_assoc front b ys
    ∙ ap (λ l. front ++ l) second ∙ sym (append_assoc front front2 c)

more_left : (rest ys : List ℕ) → 0 < length rest → 0 < length (rest ++ ys)
more_left [] ys more = absurd (omega arith)
more_left (x ∷ xs) ys more = omega arith

module _ {D : Type 0} (contents : D → Option (List ℕ)) where
  -- more bytes come after the fault
  pub broke_before : (old new : Watched D) (bytes more : List ℕ) → Broke contents old new bytes
      → Broke contents old new (bytes ++ more)
  broke_before old new bytes more b = record {
    front = b.front;
    rest = b.rest ++ more;
    parts = ap (λ l. l ++ more) b.parts ∙ append_assoc b.front b.rest more;
    more = more_left b.rest more b.more;
    appends = b.appends;
  }

  -- nothing was taken of bytes that aren't empty
  pub broke_at_once : (old new : Watched D) (bytes : List ℕ) → 0 < length bytes → new ≡ old → Broke contents old new bytes
  broke_at_once old new bytes more same = record {
    front = [];
    rest = bytes;
    parts = refl;
    more = more;
    appends = subst (λ (w : Watched D). Appends (watched_contents contents old) (watched_contents contents w) []) (sym same)
        (Appends-nil (watched_contents contents old));
  }

  pub added_none : (w : Watched D) (draft : List ℕ) → Added contents w draft w draft []
  added_none w draft = record {
    kept = λ failed. refl;
    broke = λ works failed. apart (has_failed w) failed works;
    gathered = λ works. record { front = []; parts = append-nil draft; appends = Appends-nil (watched_contents contents w) };
  }

  -- the draft took them
  pub added_draft : (w : Watched D) (before draft bytes : List ℕ) → draft ≡ before ++ bytes
      → Added contents w before w draft bytes
  added_draft w before draft bytes is = record {
    kept = λ failed. refl;
    broke = λ works failed. apart (has_failed w) failed works;
    gathered = λ works. record { front = []; parts = sym is; appends = Appends-nil (watched_contents contents w) };
  }

  -- all were written, or a front of them
  pub added_all : {T E : Type 0} (r : Result T E) (old new : Watched D) (before draft bytes all : List ℕ)
      → before ++ bytes ≡ all → draft ≡ []
      → OnOk r (Appends (watched_contents contents old) (watched_contents contents new) all)
      → OnOk r (has_failed new ≡ has_failed old) → (IsErr r → has_failed new ≡ true)
      → OnErr r (Broke contents old new all) → (has_failed old ≡ true → new ≡ old)
      → Added contents old before new draft bytes
  added_all (Ok t) old new before draft bytes all is empty appends works fault broke kept = record {
    kept = kept;
    broke = λ worked failed. apart (has_failed old) (sym works ∙ failed) worked;
    gathered = λ worked. record {
      front = all;
      parts = is ∙ sym (append-nil all) ∙ ap (λ l. all ++ l) (sym empty);
      appends = appends;
    };
  }
  added_all (Err e) old new before draft bytes all is empty appends works fault broke kept = record {
    kept = kept;
    broke = λ worked failed. subst (λ (l : List ℕ). Broke contents old new l) (sym is) broke;
    gathered = λ worked. apart (has_failed new) (fault refl) worked;
  }

  -- one call after the other
  pub added_then : (old mid new : Watched D) (a b c xs ys : List ℕ) → Added contents old a mid b xs
      → Added contents mid b new c ys → Added contents old a new c (xs ++ ys)
  added_then old mid new a b c xs ys first second = record {
    kept = λ failed.
        let same = first.kept failed in
        second.kept (ap has_failed same ∙ failed) ∙ same;
    broke = λ works failed. both (has_failed mid)
        (λ broken.
        subst (λ (w : Watched D). Broke contents old w (a ++ (xs ++ ys))) (sym (second.kept broken))
        (subst (λ (l : List ℕ). Broke contents old mid l) (append_assoc a xs ys)
        (broke_before old mid (a ++ xs) ys (first.broke works broken))))
        (λ worked.
        let f = first.gathered worked in
        let s = second.broke worked failed in record {
          front = f.front ++ s.front;
          rest = s.rest;
          parts = joined a xs ys f.front b s.front s.rest f.parts s.parts;
          more = s.more;
          appends = Appends-trans (watched_contents contents old) (watched_contents contents mid)
              (watched_contents contents new) f.front s.front f.appends s.appends;
        });
    gathered = λ works. both (has_failed mid)
        (λ broken. apart (has_failed new) (ap has_failed (second.kept broken) ∙ broken) works)
        (λ worked.
        let f = first.gathered worked in
        let s = second.gathered works in record {
          front = f.front ++ s.front;
          parts = joined a xs ys f.front b s.front c f.parts s.parts;
          appends = Appends-trans (watched_contents contents old) (watched_contents contents mid)
              (watched_contents contents new) f.front s.front f.appends s.appends;
        });
  }

  -- a call that adds two parts after another
  pub added_then_both : (old mid new : Watched D) (a b c xs ys zs : List ℕ) → Added contents old a mid b xs
      → Added contents mid b new c (ys ++ zs) → Added contents old a new c ((xs ++ ys) ++ zs)
  added_then_both old mid new a b c xs ys zs first second =
      subst (λ (l : List ℕ). Added contents old a new c l) (sym (append_assoc xs ys zs))
      (added_then old mid new a b c xs (ys ++ zs) first second)

  -- the same bytes in other words
  pub added_as : (old new : Watched D) (a b xs ys : List ℕ) → xs ≡ ys → Added contents old a new b xs
      → Added contents old a new b ys
  added_as old new a b xs ys same added = subst (λ (l : List ℕ). Added contents old a new b l) same added

  -- a draft that was empty before and is empty again
  pub grown : (old new : Watched D) (bytes : List ℕ) → Added contents old [] new [] bytes → has_failed new ≡ false
      → Grew contents old new bytes
  grown old new bytes added works =
      let g = added.gathered works in record {
        appends = subst (λ (l : List ℕ). Appends (watched_contents contents old) (watched_contents contents new) l)
            (sym (g.parts ∙ append-nil g.front)) g.appends;
        works = both (has_failed old) (λ failed. ap has_failed (added.kept failed)) (λ worked. works ∙ sym worked);
      }

  pub broken : (old new : Watched D) (bytes : List ℕ) → 0 < length bytes → Added contents old [] new [] bytes
      → has_failed new ≡ true → Broke contents old new bytes
  broken old new bytes more added failed = both (has_failed old)
      (λ before. broke_at_once old new bytes more (added.kept before))
      (λ worked. added.broke worked failed)

  pub said : {T E : Type 0} (r : Result T E) (old new : Watched D) (bytes : List ℕ) → Wrote contents old new bytes r
      → OnErr r (Broke contents old new bytes) → Said contents old new bytes r
  said (Ok t) old new bytes wrote broke = wrote
  said (Err e) old new bytes wrote broke = broke

  -- bytes that were added to an empty draft and then sent
  pub sent : (old mid new : Watched D) (a b c bytes : List ℕ) → a ≡ [] → c ≡ [] → Added contents old a mid b bytes
      → Added contents mid b new c [] → Added contents old [] new [] bytes
  sent old mid new a b c bytes first last added rest =
      subst (λ (l : List ℕ). Added contents old [] new l bytes) last
      (subst (λ (l : List ℕ). Added contents old l new c bytes) first
      (added_as old new a c (bytes ++ []) bytes (append-nil bytes) (added_then old mid new a b c bytes [] added rest)))
