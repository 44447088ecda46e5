-- Lines that are carried out, one more each time.
use Rattle.std.proofs.Common.{◌≡◌, ◌≢◌, ℕ, suc, ◌+◌, ◌<◌, ◌≤◌, List, [], ◌∷◌, ◌++◌, Bool, true, false, cond, Some, None, take, drop, length}
use Rattle.std.proofs.Common.{refl, sym, ap, subst, ◌∙◌, append_assoc, append-nil, arith, length-append, inl, inr}
use Rattle.std.specs.Prelude.{◌==◌, nat_le, zero, ◌||◌, ◌&&◌}
use Rattle.std.proofs.lemmas.List.{length-take}
use Rattle.std.proofs.lemmas.Bool.{leb-true, leb-false, le-leb, lt-leb}
use Rattle.std.proofs.lemmas.List.Elements.{All-nil, All-push, All-head, All-tail}
use Rattle.std.proofs.lemmas.List.Folds.{list_any-append}
use Rattle.adya_line.specs.Meaning.Lines.{IsPlain}
use Rattle.adya_text.specs.Meaning.Texts.{with_ends}
use Rattle.ssi_store.specs.Meaning.Courses.{Course}
use Rattle.ssi_line.specs.Meaning.Steps.{Step, IsStepOf, AllGoOn}
use Rattle.ssi_line.specs.Meaning.Steps.{step_text, steps_text, is_stop}
use Rattle.ssi_line.specs.Clauses.Ends.{WentOn, WentOnLogged}
use Rattle.ssi_line.specs.Clauses.Answers.{kept}
use Rattle.ssi_hub.specs.Clauses.Clipping.{clipped, has_line}
use Rattle.ssi_hub.specs.Clauses.Buffers.{Buffers}
use Rattle.ssi_hub.specs.Clauses.Runs.{EndsSo, AreBegun, CarriedOut, IsEnough}
use Rattle.ssi_hub.specs.Clauses.Outcomes.{stops_by, lost_by}
use Rattle.ssi_hub.specs.Clauses.Stepping.{is_ready}
use Rattle.ssi_hub.specs.Machinery.Outcomes.{Replied, Stepped}
use Rattle.ssi_hub.specs.declared.outcome.Outcome.{Outcome}
use Rattle.ssi_hub.specs.declared.outcome.CarriedLine.{CarriedLine}
use Rattle.ssi_hub.proofs.Clips.{plain_clipped, plain_without, plain_take, first_feed, line_clipped, one_cut, past_line}
use Rattle.ssi_line.proofs.StepLists.{ends_append, steps_append, text_append, went_on_more, stopped}

-- ---- the first line of what waits

take_whole : (n : ℕ) (xs : List ℕ) → length xs ≤ n → take n xs ≡ xs
take_whole zero [] short = refl
take_whole zero (x ∷ xs) short = absurd (omega arith)
take_whole (suc n) [] short = refl
take_whole (suc n) (x ∷ xs) short = ap (λ (l : List ℕ). x ∷ l) (take_whole n xs (omega (arith, short)))

-- what is kept of a line is all that its answer depends on
pub kept_first : (line : List ℕ) → kept (take 4097 line) ≡ kept line
kept_first line = by_length (nat_le (length line) 4096) refl
  where
    by_length : (short : Bool) → nat_le (length line) 4096 ≡ short → kept (take 4097 line) ≡ kept line
    by_length true is =
        let few : length line ≤ 4096 = leb-true (length line) 4096 is in
        ap (λ (l : List ℕ). kept l) (take_whole 4097 line (omega (arith, few)))
    by_length false is =
        let many : 4096 < length line = leb-false (length line) 4096 is in
        let full : 4096 < length (take 4097 line) = omega (arith, length-take 4097 line, many) in
        ap (λ b. cond b (Some (take 4097 line)) None) (lt-leb (length (take 4097 line)) 4096 full)
        ∙ sym (ap (λ b. cond b (Some line) None) is)

no_feed : (xs ys : List ℕ) → IsPlain (xs ++ (10 ∷ ys)) → ⊥
no_feed [] ys plain = All-head (λ x. x ≢ 10) 10 ys plain refl
no_feed (x ∷ xs) ys plain = no_feed xs ys (All-tail (λ b. b ≢ 10) x (xs ++ (10 ∷ ys)) plain)

-- if what is kept of the bytes begins with a whole line, then so do the bytes
pub cut_bytes : (bytes front more : List ℕ) → clipped bytes ≡ front ++ (10 ∷ more) → IsPlain front
    → (line : List ℕ) × (left : List ℕ) × IsPlain line × (bytes ≡ line ++ (10 ∷ left)) × (front ≡ take 4097 line)
    × (more ≡ clipped left)
cut_bytes bytes front more is plain = by_line (has_line bytes) refl
  where
    by_line : (has : Bool) → has_line bytes ≡ has
        → (line : List ℕ) × (left : List ℕ) × IsPlain line × (bytes ≡ line ++ (10 ∷ left)) × (front ≡ take 4097 line)
        × (more ≡ clipped left)
    by_line true has =
        let (line, left, without, cut) = first_feed bytes has in
        let both = one_cut front more (take 4097 line) (clipped left) plain (plain_take 4097 line without)
        (sym is ∙ ap (λ (l : List ℕ). clipped l) cut ∙ line_clipped line left without) in
        (line, left, without, cut, both.0, both.1)
    by_line false none =
        let without = plain_without bytes none in
        let whole : IsPlain (clipped bytes) = subst IsPlain (sym (plain_clipped 0 bytes without)) (plain_take 4097 bytes without) in
        absurd (no_feed front more (subst IsPlain is whole))

-- ---- whether a line may be carried out

pub feeds : (line rest : List ℕ) → has_line (line ++ (10 ∷ rest)) ≡ true
feeds line rest = list_any-append (λ b. b == 10) line (10 ∷ rest) ∙ either (has_line line)
  where
    either : (b : Bool) → b || true ≡ true
    either true = refl
    either false = refl

-- a line waits, and few bytes are unsent
pub ready : (b : Buffers) (front rest : List ℕ) → b.waiting ≡ front ++ (10 ∷ rest) → length b.unsent ≤ 65536
    → is_ready b ≡ true
ready b front rest waits short =
    ap (λ h. h && nat_le (length b.unsent) 65536) (ap (λ (l : List ℕ). has_line l) waits ∙ feeds front rest)
    ∙ le-leb (length b.unsent) 65536 short

pub none_ready : (b : Buffers) → has_line b.waiting ≡ false → is_ready b ≡ false
none_ready b none = ap (λ h. h && nat_le (length b.unsent) 65536) none

pub full : (b : Buffers) → 65536 < length b.unsent → is_ready b ≡ false
full b many = ap (λ n. has_line b.waiting && n) (lt-leb (length b.unsent) 65536 many) ∙ either (has_line b.waiting)
  where
    either : (h : Bool) → (h && false) ≡ false
    either true = refl
    either false = refl

not_ready : (b : Buffers) → is_ready b ≡ false → has_line b.waiting ≡ true → 65536 < length b.unsent
not_ready b none has =
    leb-false (length b.unsent) 65536 (sym (ap (λ h. h && nat_le (length b.unsent) 65536) has) ∙ none)

-- ---- one line

-- it was carried out and passed
pub stepped : {T : Type 0} (keeps : Bool) (is_at : T → Course → Type 0) (old now : Buffers) (bytes front more passed unsent : List ℕ)
    (len : ℕ) (store after : T) (carried : CarriedLine) → now ≡ old → old.waiting ≡ clipped bytes → IsPlain front
    → now.waiting ≡ front ++ (10 ∷ more) → len ≡ length front → passed ≡ drop 1 (drop len now.waiting)
    → length now.unsent ≤ 65536
    → ((step : Step) × ((text : List ℕ) → kept front ≡ kept text → IsStepOf keeps text step)
    × Replied carried step now.unsent unsent × WentOn is_at store (step ∷ []) after × WentOnLogged is_at store step after)
    → (line : List ℕ) × (step : Step) × (left : List ℕ)
    × Stepped keeps is_at old bytes store carried line step left (record { waiting = passed; unsent = unsent }) after
stepped keeps is_at old now bytes front more passed unsent len store after carried same waits plain cut counted left_is short one =
    let (step, made, reply, went, logged) = one in
    let same_waiting : now.waiting ≡ old.waiting = ap (λ (b : Buffers). b.waiting) same in
    let is : clipped bytes ≡ front ++ (10 ∷ more) = sym waits ∙ sym same_waiting ∙ cut in
    let (line, left, without, whole, first, behind) = cut_bytes bytes front more is plain in
    let shown : kept front ≡ kept line = ap (λ (l : List ℕ). kept l) first ∙ kept_first line in (
      line,
      step,
      left,
      record {
        plain = without;
        cut = whole;
        waits = left_is ∙ past_line now.waiting front more len cut counted ∙ behind;
        made = made line shown;
        first = λ other rest begins plain_too.
            let here : other ≡ front =
            (one_cut other rest front more plain_too plain (sym begins ∙ sym same_waiting ∙ cut)).0 in
            (ap (λ (l : List ℕ). kept l) here ∙ shown, made other (ap (λ (l : List ℕ). kept l) (sym here)));
        within = subst (λ (b : Buffers). length b.unsent ≤ 65536) same short;
        replied = subst (λ (b : Buffers). Replied carried step b.unsent unsent) same reply;
        went = went;
        logged = logged;
      },
    )

-- ---- one more line of a run

ends_more : (stops : Bool) (steps : List Step) (step : Step) → AllGoOn steps → is_stop step ≡ stops
    → EndsSo stops (steps ++ step ∷ [])
ends_more false steps step all is = All-push (λ s. is_stop s ≡ false) steps step all is
ends_more true steps step all is =
    record { before = steps; go_on = all; is = ap (λ (s : Step). steps ++ (s ∷ [])) (stopped step is) }

begun_more : (n : ℕ) (steps : List Step) (step : Step) → AreBegun n steps → n + length (steps_text steps) ≤ 65536
    → AreBegun n (steps ++ step ∷ [])
begun_more n [] step all within = (omega (arith, within), tt)
begun_more n (s ∷ ss) step all within =
    let long = length-append (step_text s) (steps_text ss) in
    (all.0, begun_more (n + length (step_text s)) ss step all.1 (omega (arith, within, long)))

cut_more : (bytes left line after : List ℕ) (lines : List (List ℕ)) → bytes ≡ with_ends lines ++ left
    → left ≡ line ++ (10 ∷ after) → bytes ≡ with_ends (lines ++ line ∷ []) ++ after
cut_more bytes left line after lines is cut =
    is ∙ ap (λ (l : List ℕ). with_ends lines ++ l) (cut ∙ sym (append_assoc line (10 ∷ []) after))
    ∙ sym (append_assoc (with_ends lines) (line ++ (10 ∷ [])) after)
    ∙ ap (λ (l : List ℕ). l ++ after) (sym (ends_append lines (line ∷ [])))

replies_more : (old mid new : List ℕ) (steps : List Step) (step : Step) → mid ≡ old ++ steps_text steps
    → new ≡ mid ++ step_text step → new ≡ old ++ steps_text (steps ++ step ∷ [])
replies_more old mid new steps step before now =
    now ∙ ap (λ (l : List ℕ). l ++ step_text step) before ∙ append_assoc old (steps_text steps) (step_text step)
    ∙ ap (λ (l : List ℕ). old ++ l)
    (ap (λ (l : List ℕ). steps_text steps ++ l) (sym (append-nil (step_text step))) ∙ sym (text_append steps (step ∷ [])))

pub carried_none : {T : Type 0} (keeps : Bool) (is_at : T → Course → Type 0) (old : Buffers) (bytes : List ℕ) (store : T)
    → old.waiting ≡ clipped bytes → CarriedOut keeps is_at old bytes store false false [] [] bytes old store
carried_none keeps is_at old bytes store waits = record {
  plain = All-nil IsPlain;
  cut = refl;
  waits = waits;
  made = tt;
  replies = λ _. sym (append-nil old.unsent);
  went = λ course at. (tt, at);
  ends = All-nil (λ s. is_stop s ≡ false);
  begun = tt;
}

pub carried_more : {T : Type 0} (keeps : Bool) (is_at : T → Course → Type 0) (old mid new : Buffers) (bytes left after : List ℕ)
    (store between now : T) (carried : CarriedLine) (lines : List (List ℕ)) (steps : List Step) (line : List ℕ) (step : Step)
    → CarriedOut keeps is_at old bytes store false false lines steps left mid between
    → Stepped keeps is_at mid left between carried line step after new now
    → CarriedOut keeps is_at old bytes store (stops_by carried.outcome) (lost_by carried.outcome) (lines ++ line ∷ [])
    (steps ++ step ∷ []) after new now
carried_more keeps is_at old mid new bytes left after store between now carried lines steps line step so more =
    let long : length mid.unsent ≡ length old.unsent + length (steps_text steps) =
    ap (λ (l : List ℕ). length l) (so.replies refl) ∙ length-append old.unsent (steps_text steps) in
    record {
      plain = All-push IsPlain lines line so.plain more.plain;
      cut = cut_more bytes left line after lines so.cut more.cut;
      waits = more.waits;
      made = steps_append keeps lines (line ∷ []) steps (step ∷ []) so.made (more.made, tt);
      replies = λ held. replies_more old.unsent mid.unsent new.unsent steps step (so.replies refl) (more.replied.reply held);
      went = went_on_more is_at store between now steps step so.went more.went;
      ends = ends_more (stops_by carried.outcome) steps step so.ends more.replied.stops;
      begun = begun_more (length old.unsent) steps step so.begun (omega (arith, more.within, long));
    }

-- the only line of a run
pub carried_one : {T : Type 0} (keeps : Bool) (is_at : T → Course → Type 0) (old new : Buffers) (bytes after : List ℕ) (store now : T)
    (carried : CarriedLine) (line : List ℕ) (step : Step) → old.waiting ≡ clipped bytes
    → Stepped keeps is_at old bytes store carried line step after new now
    → CarriedOut keeps is_at old bytes store (stops_by carried.outcome) (lost_by carried.outcome) (line ∷ []) (step ∷ []) after new
    now
carried_one keeps is_at old new bytes after store now carried line step waits so =
    carried_more keeps is_at old old new bytes bytes after store store now carried [] [] line step
    (carried_none keeps is_at old bytes store waits) so

-- ---- the ends of a run

neither : (a b : Bool) → (a || b) ≡ false → (a ≡ false) × (b ≡ false)
neither true b e = cc
neither false b e = (refl, e)

pub goes_on : {T : Type 0} (keeps : Bool) (is_at : T → Course → Type 0) (old new : Buffers) (bytes left : List ℕ) (store now : T)
    (outcome : Outcome) (lines : List (List ℕ)) (steps : List Step) → false ≡ (stops_by outcome || lost_by outcome)
    → CarriedOut keeps is_at old bytes store (stops_by outcome) (lost_by outcome) lines steps left new now
    → CarriedOut keeps is_at old bytes store false false lines steps left new now
goes_on keeps is_at old new bytes left store now outcome lines steps none so =
    let both = neither (stops_by outcome) (lost_by outcome) (sym none) in
    subst (λ a. CarriedOut keeps is_at old bytes store a false lines steps left new now) both.0
    (subst (λ b. CarriedOut keeps is_at old bytes store (stops_by outcome) b lines steps left new now) both.1 so)

pub length_more : (lines : List (List ℕ)) (line : List ℕ) → length (lines ++ line ∷ []) ≡ length lines + 1
length_more lines line = length-append lines (line ∷ [])

-- the last line ended the run
pub enough_ended : (outcome : Outcome) (most counter : ℕ) (lines : List (List ℕ)) (line : List ℕ) (new : Buffers)
    → true ≡ (stops_by outcome || lost_by outcome) → length lines ≡ counter → counter < most
    → IsEnough (stops_by outcome) (lost_by outcome) most (lines ++ line ∷ []) new
enough_ended outcome most counter lines line new ends counted below = record {
  few = omega (arith, length_more lines line, counted, below);
  some = λ _. omega (arith, length_more lines line);
  paused = λ a b _. absurd (ended (stops_by outcome) (lost_by outcome) (sym ends) a b);
}
  where
    ended : (a b : Bool) → (a || b) ≡ true → a ≡ false → b ≡ false → ⊥
    ended true b e p q = cc
    ended false b e p q = cc

-- no line may be carried out
pub none_waits : {T : Type 0} (keeps : Bool) (is_at : T → Course → Type 0) (old mid new : Buffers) (bytes left : List ℕ) (store between now : T)
    (lines : List (List ℕ)) (steps : List Step) (most counter : ℕ) → new ≡ mid → now ≡ between
    → is_ready mid ≡ false → length lines ≡ counter → counter < most
    → CarriedOut keeps is_at old bytes store false false lines steps left mid between
    → CarriedOut keeps is_at old bytes store false false lines steps left new now × IsEnough false false most lines new
none_waits keeps is_at old mid new bytes left store between now lines steps most counter same same_store none counted below so = (
  subst (λ (b : Buffers). CarriedOut keeps is_at old bytes store false false lines steps left b now) (sym same)
      (subst (λ s. CarriedOut keeps is_at old bytes store false false lines steps left mid s) (sym same_store) so),
  record {
    few = omega (arith, counted, below);
    some = λ e. cc;
    paused = λ _ _ has. inr
        (subst (λ (b : Buffers). 65536 < length b.unsent) (sym same)
        (not_ready mid none (sym (ap (λ (b : Buffers). has_line b.waiting) same) ∙ has)));
  },
)

pub enough_lines : (most : ℕ) (lines : List (List ℕ)) (new : Buffers) → length lines ≡ most
    → IsEnough false false most lines new
enough_lines most lines new counted = record { few = omega (arith, counted); some = λ e. cc; paused = λ _ _ _. inl counted }
