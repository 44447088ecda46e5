-- The places of writers in all lines, event by event and in the end.
use Rattle.std.proofs.Common.{◌≡◌, ◌≢◌, ℕ, suc, ◌+◌, ◌<◌, Bool, true, false, not, is_some, ◌||◌, List, [], length, get_or, set, replicate, Option, Some, slice_get, slice_index, map, refl, sym, ◌∙◌, ap, subst, inl, inr, arith, get_or-set_other, get_or-set_same}
use Rattle.std.specs.List.{filter_map, list_all}
use Rattle.std.proofs.lemmas.Bool.{and_from, both_ways, cases_eq, cases_lt, false_from_ne_true, not-true, or_cases}
use Rattle.std.proofs.lemmas.List.{length-replicate, length-set}
use Rattle.std.proofs.lemmas.Option.{get_or_from_slice_get, same_Some, slice_get_within}
use Rattle.adya_values.specs.declared.event.Version.{Version}
use Rattle.adya_keys.specs.Meaning.Keys.{Key, key_eq, keys_rise}
use Rattle.adya_values.specs.Meaning.Histories.{Entry, Event, Order}
use Rattle.adya_values.specs.Meaning.Events.{is_committed, last_write, written}
use Rattle.adya_values.specs.declared.fault.Rule.TheVariants.{M7}
use Rattle.adya_values.specs.Clauses.Rules.{installs}
use Rattle.adya_values.specs.Computing.Faults.{lists_exactly, order_faults}
use Rattle.adya_keys.specs.declared.indices.Indices.{Indices}
use Rattle.adya_keys.specs.Machinery.Indices.{indices_in}
use Rattle.adya_keys.specs.Machinery.Within.{key_at}
use Rattle.adya_values.proofs.Faults.{each_passes}
use Rattle.adya_keys.proofs.Keys.{rises_pairs}
use Rattle.adya_values.proofs.Writes.{has_last_write, last_write_from}
use Rattle.adya_terms.specs.declared.line_places.LinePlaces.{LinePlaces}
use Rattle.adya_terms.specs.declared.placing.Placing.{Placing}
use Rattle.adya_terms.specs.Machinery.Tables.{Own, Tell}
use Rattle.adya_terms.specs.Machinery.LinePlaces.{blank, line_places, named, AreParts, AreStarts}
use Rattle.adya_terms.specs.Machinery.Places.{has_line, lacks_at, places_in, AreLines, AreLinesOf, ArePlaced, AreWrites, Installs, IsInjective, IsPlaced, Judges}
use Rattle.adya_terms.specs.Mirror.LineNumbers.{key_of, FindsLines}
use Rattle.adya_terms.proofs.LineParts.{filled_elsewhere, filled_here}
use Rattle.adya_terms.proofs.Places.{all_alike, exact_if_full, has_last, last_within, line_is, none_placed, one_lacking, one_placed, passed_by}
use Rattle.lemmas.proofs.Counts.{count}
use Rattle.lemmas.proofs.Booleans.{or_unless}
use Rattle.lemmas.proofs.Members.{Contains-slice_get, slice_get-contained}
use Rattle.lemmas.proofs.Options.{some_value}
use Rattle.lemmas.proofs.Orderings.{bytes_eq-from, bytes_eq-same, bytes_lt-apart}
use Rattle.lemmas.proofs.Steps.{turn_below}
use Rattle.lemmas.proofs.Tests.{all_pass, list_all_when, list_any-source, list_any_when}

-- ---- lines of rising keys

module _ (os : List Order) (rise : keys_rise (map (λ (o : Order). o.key) os) ≡ true) where
  later_apart : (i j : ℕ) (o p : Order) → slice_get os i ≡ Some o → slice_get os j ≡ Some p → i < j → o.key ≡ p.key → ⊥
  later_apart i j o p e f less same =
      let at : get_or os i o ≡ o = get_or_from_slice_get os i o o e in
      let this : get_or os j o ≡ p = get_or_from_slice_get os j p o f in
      bytes_lt-apart (get_or os i o).key (get_or os j o).key
      (rises_pairs (λ (y : Order). y.key) os rise i j o less (slice_get_within os j p f))
      (ap (λ (y : Order). y.key) at ∙ (same ∙ ap (λ (y : Order). y.key) (sym this)))

  -- lines of one key are the same
  one_line : (i j : ℕ) (o p : Order) → slice_get os i ≡ Some o → slice_get os j ≡ Some p → o.key ≡ p.key → i ≡ j
  one_line i j o p e f same = elim (cases_lt i j) [
    | inl less ↦ absurd (later_apart i j o p e f less same)
    | inr rest ↦ elim (cases_lt j i) [
      | inl more ↦ absurd (later_apart j i p o f e more (sym same))
      | inr none ↦ omega (arith, rest, none)
    ]
  ]

has_the_line : (os : List Order) (i : ℕ) (o : Order) (k : List ℕ) → slice_get os i ≡ Some o → o.key ≡ k → has_line os k ≡ true
has_the_line os i o k e same = list_any_when (λ x. key_eq x.key k) os o (Contains-slice_get os i o e) (bytes_eq-from o.key k same)

-- what holds of orders whose keys rise holds of the same orders
pub placed_in : (os ps : List Order) (P : List Order → Type 0) → ps ≡ os → keys_rise (map (λ (o : Order). o.key) os) ≡ true
    → (keys_rise (map (λ (o : Order). o.key) ps) ≡ true → P ps) → P os
placed_in os ps P same rise p = subst P same (p (ap (λ zs. keys_rise (map (λ (o : Order). o.key) zs)) same ∙ rise))

-- ---- before any event

pub nothing_placed : (all : List Event) (l : Own → Option ℕ) (ks : List Key) (os : List Order) (x : Placing) → FindsLines (indices_in x.numbers) ks os (length os)
    → AreParts (blank os) (indices_in x.lines.writes) (indices_in x.lines.starts) (length os) → x.lacks.items ≡ replicate (length os) false → x.left_out ≡ false
    → ArePlaced all l 0 ks os x
nothing_placed all l ks os x finds parts flags covers = record {
  finds = finds;
  lines = record {
    count = parts.count;
    flags = ap length flags ∙ length-replicate (length os) false;
    lines = λ n o e.
        let is : places_in x.lines n ≡ replicate (length o.writers) 0 =
        parts.same n (slice_get_within os n o e) ∙ ap (λ y. replicate (length (named y)) 0) e in
        let none : lacks_at x.lacks.items n ≡ false = ap (λ bs. get_or bs n false) flags ∙ all_alike false (length os) n in
        subst (IsPlaced all l 0 o.key o.writers (places_in x.lines n)) (sym none)
        (subst (λ ws. IsPlaced all l 0 o.key o.writers ws false) (sym is) (none_placed all l o.key o.writers));
  };
  left = λ e. absurd (both_ways _ covers e);
  covered = λ e k t at i less. absurd (omega (arith, less));
}

-- ---- one more event

module _ (all : List Event) (l : Own → Option ℕ) (at : ℕ) (os : List Order) (writes starts : List ℕ) (lacks : List Bool)
    (had : AreLines all l at os writes starts lacks) where
  passed_line : (n : ℕ) (o : Order) → slice_get os n ≡ Some o → ((t : ℕ) → Installs all l o.key t at → ⊥)
      → IsPlaced all l (suc at) o.key o.writers (line_places writes starts n) (lacks_at lacks n)
  passed_line n o e none = passed_by all l at o.key o.writers (line_places writes starts n) (lacks_at lacks n) (had.lines n o e) none

  -- it installs no version of the key of a line
  pub lines_passed : ((n : ℕ) (o : Order) → slice_get os n ≡ Some o → (t : ℕ) → Installs all l o.key t at → ⊥)
      → AreLines all l (suc at) os writes starts lacks
  lines_passed none = record {
    count = had.count;
    flags = had.flags;
    lines = λ n o e. passed_line n o e (none n o e);
  }

  -- it installs one of the key of a line
  module _ (rise : keys_rise (map (λ (o : Order). o.key) os) ≡ true) (inj : IsInjective l) (i t : ℕ) (o : Order) (e : slice_get os i ≡ Some o)
      (here : Installs all l o.key t at) where
    other_line : (n : ℕ) (p : Order) → slice_get os n ≡ Some p → n ≢ i → (u : ℕ) → Installs all l p.key u at → ⊥
    other_line n p g other u w =
        let keys = inj u p.key t o.key at w.last_is here.last_is in
        other (one_line os rise n i p o g e keys.1)

    within : suc i < length starts
    within = let less = slice_get_within os i o e in let count = had.count in omega (arith, less, count)

    -- that line is right after the event, and the others are as they were
    line_more : (after : List ℕ) (flags : List Bool) → length flags ≡ length os
        → IsPlaced all l (suc at) o.key o.writers (line_places after starts i) (lacks_at flags i)
        → ((n : ℕ) → suc n < length starts → n ≢ i → line_places after starts n ≡ line_places writes starts n)
        → ((n : ℕ) → n ≢ i → lacks_at flags n ≡ lacks_at lacks n)
        → AreLines all l (suc at) os after starts flags
    line_more after flags long this places others = record {
      count = had.count;
      flags = long;
      lines = λ n p g. elim (cases_eq n i) [
        | inl same ↦
            let is : o ≡ p = same_Some _ _ (sym e ∙ (ap (slice_get os) (sym same) ∙ g)) in
            subst (λ (q : Order). IsPlaced all l (suc at) q.key q.writers (line_places after starts n) (lacks_at flags n)) is
            (subst (λ m. IsPlaced all l (suc at) o.key o.writers (line_places after starts m) (lacks_at flags m)) (sym same) this)
        | inr other ↦
            let less = slice_get_within os n p g in
            let count = had.count in
            let is = places n (omega (arith, less, count)) other in
            subst (IsPlaced all l (suc at) p.key p.writers (line_places after starts n)) (sym (others n other))
            (subst (λ ws. IsPlaced all l (suc at) p.key p.writers ws (lacks_at lacks n)) (sym is) (passed_line n p g (other_line n p g other)))
      ];
    }

    pub has_place : (p : ℕ) → slice_get o.writers p ≡ Some t → p < length (line_places writes starts i)
    has_place p there =
        let less = slice_get_within o.writers p t there in
        let count = (had.lines i o e).count in
        omega (arith, less, count)

    pub has_start : suc i < length starts
    has_start = within

    -- the writer's place is filled
    pub line_filled : AreStarts starts (length writes) → (p : ℕ) → slice_get o.writers p ≡ Some t
        → AreLines all l (suc at) os (set writes (slice_index starts i + p) (suc at)) starts lacks
    line_filled ordered p there =
        let less = has_place p there in
        line_more (set writes (slice_index starts i + p) (suc at)) lacks had.flags
        (subst (λ ws. IsPlaced all l (suc at) o.key o.writers ws (lacks_at lacks i)) (sym (filled_here writes starts ordered i p (suc at) within less))
        (one_placed all l at o.key o.writers (line_places writes starts i) (lacks_at lacks i) (had.lines i o e) inj t p here there))
        (filled_elsewhere writes starts ordered i p (suc at) within less)
        (λ n other. refl)

    -- or the line doesn't name the writer
    pub line_lacking : count o.writers t ≡ 0 → AreLines all l (suc at) os writes starts (set lacks i true)
    line_lacking none =
        let less = slice_get_within os i o e in
        let flags = had.flags in
        let now : lacks_at (set lacks i true) i ≡ true = get_or-set_same lacks i true false (omega (arith, less, flags)) in
        line_more writes (set lacks i true) (length-set lacks i true ∙ had.flags)
        (subst (IsPlaced all l (suc at) o.key o.writers (line_places writes starts i)) (sym now)
        (one_lacking all l at o.key o.writers (line_places writes starts i) (lacks_at lacks i) (had.lines i o e) t here none))
        (λ n m other. refl)
        (λ n other. get_or-set_other lacks i n true false other)

module _ (all : List Event) (l : Own → Option ℕ) (at : ℕ) (ks : List Key) (os : List Order) (x : Placing) (had : ArePlaced all l at ks os x) where
  -- it installs no version
  pub event_passed : ((k : List ℕ) (t : ℕ) → Installs all l k t at → ⊥) → ArePlaced all l (suc at) ks os x
  event_passed none = record {
    finds = had.finds;
    lines = lines_passed all l at os (indices_in x.lines.writes) (indices_in x.lines.starts) x.lacks.items had.lines (λ n o e t. none o.key t);
    left = had.left;
    covered = λ covers k t i y less. elim (cases_lt i at) [
      | inl old ↦ had.covered covers k t i y old
      | inr new ↦
          let here : i ≡ at = omega (arith, less, new) in
          absurd (none k t (subst (Installs all l k t) here y))
    ];
  }

  -- it installs one
  module _ (inj : IsInjective l) (n t : ℕ) (within : n < length ks) (here : Installs all l (key_at ks n) t at) where
    -- the line of its key
    pub record IsLineOfKey (i : ℕ) : Type 0 where
      pub line : Order
      pub there : slice_get os i ≡ Some line
      pub key_is : line.key ≡ key_at ks n

    pub line_found : (i : ℕ) → slice_index (indices_in x.numbers) n ≡ suc i → IsLineOfKey i
    line_found i e =
        let found = had.finds.found n i within e in
        let o = turn_below os i found.0 in
        record {
          line = o.0;
          there = o.1.found;
          key_is = ap key_of (sym o.1.found) ∙ found.1;
        }

    -- with its line after the event
    pub line_placed : (y : Placing) (i : ℕ) → IsLineOfKey i → y.numbers ≡ x.numbers → y.left_out ≡ x.left_out
        → AreLinesOf all l (suc at) os y → ArePlaced all l (suc at) ks os y
    line_placed y i line numbers left_out placed = record {
      finds = subst (λ (v : Indices). FindsLines (indices_in v) ks os (length os)) (sym numbers) had.finds;
      lines = placed;
      left = λ e. had.left (sym left_out ∙ e);
      covered = λ e k u j w less. elim (cases_lt j at) [
        | inl old ↦ had.covered (sym left_out ∙ e) k u j w old
        | inr new ↦
            let is : j ≡ at = omega (arith, less, new) in
            let same = inj u k t (key_at ks n) j w.last_is (here.last_is ∙ ap Some (sym is)) in
            has_the_line os i line.line k line.there (line.key_is ∙ sym same.1)
      ];
    }

    module _ (none : slice_index (indices_in x.numbers) n ≡ 0) where
      no_line_has : (i : ℕ) (o : Order) → slice_get os i ≡ Some o → o.key ≡ key_at ks n → ⊥
      no_line_has i o e same =
          had.finds.missing n within none i (slice_get_within os i o e) (ap key_of e ∙ same)

      -- its key has no line
      pub left_out_more : (y : Placing) → y.numbers ≡ x.numbers → y.lines ≡ x.lines → y.lacks ≡ x.lacks → y.left_out ≡ true → ArePlaced all l (suc at) ks os y
      left_out_more y numbers same flags left_out = record {
        finds = subst (λ (v : Indices). FindsLines (indices_in v) ks os (length os)) (sym numbers) had.finds;
        lines =
            subst (λ (v : LinePlaces). AreLines all l (suc at) os (indices_in v.writes) (indices_in v.starts) y.lacks.items) (sym same)
            (subst (λ v. AreLines all l (suc at) os (indices_in x.lines.writes) (indices_in x.lines.starts) v) (ap (λ v. v.items) (sym flags))
            (lines_passed all l at os (indices_in x.lines.writes) (indices_in x.lines.starts) x.lacks.items had.lines
            (λ i o e u w.
            let keys = inj u o.key t (key_at ks n) at w.last_is here.last_is in
            no_line_has i o e keys.1)));
        left = λ e. record {
          key = key_at ks n;
          txn = t;
          at = at;
          installs = here;
          missing =
              false_from_ne_true _ (λ some.
              let o = list_any-source (λ p. key_eq p.key (key_at ks n)) os some in
              let i = slice_get-contained os o.0 o.1 in
              no_line_has i.0 o.0 i.1 (bytes_eq-same o.0.key (key_at ks n) o.2));
        };
        covered = λ covers. absurd (both_ways _ covers left_out);
      }

-- ---- in the end

module _ (c a : ℕ → Bool) (l : Own → Option ℕ) (v : Version → Option ℕ) (all : List Event) (m : Tell c a l v all all)
    (ks : List Key) (os : List Order) (x : Placing) (n : ℕ) (long : n ≡ length all) (done : ArePlaced all l n ks os x) where
  whole : AreLinesOf all l (length all) os x
  whole = subst (λ i. AreLinesOf all l i os x) long done.lines

  pub judges : Judges all os x
  judges i o e = exact_if_full c a l v all m o.key o.writers (places_in x.lines i) (lacks_at x.lacks.items i) (whole.lines i o e)

  -- lines without a fault hold all last writes
  pub writes_are : (line : ℕ) → order_faults all line os ≡ [] → AreWrites l x.lines os
  writes_are line none = record {
    count = whole.count;
    same = λ i o e.
        let exact = each_passes (λ (z : Order). lists_exactly (installs all z.key) z.writers all) M7 (order_faults all) (λ _ _ _. refl) line os o none (Contains-slice_get os i o e) in
        line_is c a l v all m o.key o.writers (places_in x.lines i) (lacks_at x.lacks.items i) (whole.lines i o e) (sym (judges i o e) ∙ exact);
  }

  -- the key has a line, if its writer is committed
  abbrev is_listed : Entry → Bool
  is_listed w = not (is_committed all w.version.txn) || has_line os w.version.key

  pub all_listed : x.left_out ≡ false → list_all is_listed (filter_map written all) ≡ true
  all_listed covers =
      list_all_when is_listed (filter_map written all)
      (λ w there.
      let t = w.version.txn in
      let k = w.version.key in
      or_unless _ _ (λ committed.
      let y = has_last c a l v all m k t (and_from _ _ committed (has_last_write all w there)) in
      let within = last_within c a l v all m t k y.0 y.1.last_is in
      done.covered covers k t y.0 y.1 (omega (arith, within, long))))

  pub one_unlisted : x.left_out ≡ true → list_all is_listed (filter_map written all) ≡ false
  one_unlisted e =
      false_from_ne_true _ (λ lines.
      let g = done.left e in
      let last = some_value (last_write g.txn g.key all) (sym (m.has_is g.txn g.key) ∙ ap is_some g.installs.last_is) in
      let w = last_write_from g.txn g.key all last.0 last.1 in
      elim (or_cases _ _ (all_pass is_listed (filter_map written all) last.0 lines w.there)) [
        | inl undone ↦ both_ways _ (not-true _ undone) (ap (is_committed all) w.txn_is ∙ g.installs.committed)
        | inr some ↦ both_ways _ g.missing (ap (has_line os) (sym w.key_is) ∙ some)
      ])
