-- What a store holds after rows were written whose keys rise.
use Rattle.std.proofs.Common.{◌≡◌, ℕ, true, false, cond, List, [], ◌∷◌, ◌++◌, Option, Some, None, map, refl, sym, ◌∙◌, ap, subst}
use Rattle.std.specs.List.{AllByRecursion, Contains, cons_option, filter_map}
use Rattle.std.proofs.lemmas.Bool.{false_from_ne_true}
use Rattle.std.proofs.lemmas.List.{append-nil, append_assoc}
use Rattle.std.proofs.lemmas.List.Elements.{Contains-append_right}
use Rattle.lemmas.proofs.Members.{Contains-head, Contains-cons}
use Rattle.lemmas.proofs.Orderings.{bytes_eq-itself, bytes_eq-other, bytes_lt-apart, bytes_lt-trans}
use Rattle.adya_keys.specs.Meaning.Keys.{Key, key_eq, key_lt, keys_rise}
use Rattle.adya_keys.proofs.Keys.{keys_rise-tail, rises_below}
use Rattle.adya_keys.proofs.KeyOrder.{key_lt-never}
use Rattle.adya_values.specs.Meaning.Histories.{Entry, FinalPair}
use Rattle.adya_values.specs.Meaning.Events.{shown, visible}
use Rattle.adya_values.specs.Meaning.KeySets.{insert}
use Rattle.adya_values.specs.Meaning.Serial.{Contents, empty, put, visible_pair_of, visible_pairs}
use Rattle.adya_values.proofs.InsertedKeys.{head_below}
use Rattle.ssi_store.specs.Meaning.Acts.{acts}
use Rattle.ssi_store.specs.Meaning.Contents.{contents_after}
use Rattle.ssi_store.specs.Meaning.Courses.{Course}
use Rattle.ssi_store.specs.Meaning.Seeing.{commit_count, committed, keys}
use Rattle.ssi_store.proofs.Lists.{filter_map_same}
use Rattle.ssi_store.proofs.SeenByEvents.{contents_is}
use Rattle.ssi_loads.proofs.LoadedCourses.{IsIdle, filled, with_keys}

abbrev keys_of : List FinalPair → List Key
keys_of rows = map (λ r. r.key) rows

-- ---- keys

insert_last : (k : Key) (ks : List Key) → AllByRecursion (λ j. key_lt j k ≡ true) ks → insert k ks ≡ ks ++ (k ∷ [])
insert_last k [] below = refl
insert_last k (j ∷ js) below =
    let not_less : key_lt k j ≡ false = false_from_ne_true (key_lt k j) (λ less. key_lt-never k (bytes_lt-trans k j k less below.0)) in
    let other : key_eq k j ≡ false = bytes_eq-other k j (λ e. bytes_lt-apart j k below.0 (sym e)) in
    ap (λ b. cond b (k ∷ j ∷ js) (cond (key_eq k j) (j ∷ js) (j ∷ insert k js))) not_less
    ∙ ap (λ b. cond b (j ∷ js) (j ∷ insert k js)) other
    ∙ ap (λ l. j ∷ l) (insert_last k js below.1)

below_last : (ks : List Key) (k : Key) (more : List Key) → keys_rise (ks ++ (k ∷ more)) ≡ true
    → AllByRecursion (λ j. key_lt j k ≡ true) ks
below_last [] k more r = tt
below_last (j ∷ js) k more r = (
  head_below j (js ++ (k ∷ more)) k r (Contains-append_right js (k ∷ more) k (Contains-head k more)),
  below_last js k more (keys_rise-tail j (js ++ (k ∷ more)) r),
)

keys_made : (ks : List Key) (rows : List FinalPair) → keys_rise (ks ++ keys_of rows) ≡ true
    → with_keys ks rows ≡ ks ++ keys_of rows
keys_made ks [] r = sym (append-nil ks)
keys_made ks (row ∷ rows) r =
    let same = append_assoc ks (row.key ∷ []) (keys_of rows) in
    ap (λ l. with_keys l rows) (insert_last row.key ks (below_last ks row.key (keys_of rows) r))
    ∙ keys_made (ks ++ (row.key ∷ [])) rows (subst (λ l. keys_rise l ≡ true) (sym same) r)
    ∙ same

-- ---- values

-- rows of other keys change nothing of this one
filled_other : (m : Contents) (rows : List FinalPair) (k : Key) → ((row : FinalPair) → Contains rows row → key_eq row.key k ≡ false)
    → filled m rows k ≡ m k
filled_other m [] k others = refl
filled_other m (row ∷ rows) k others =
    filled_other (put m row.key (Some row.value)) rows k (λ r c. others r (Contains-cons row rows r c))
    ∙ ap (λ b. cond b (Some row.value) (m k)) (others row (Contains-head row rows))

rows_made : (m : Contents) (rows : List FinalPair) → keys_rise (keys_of rows) ≡ true
    → filter_map (λ k. visible_pair_of k (filled m rows k)) (keys_of rows) ≡ rows
rows_made m [] r = refl
rows_made m (row ∷ rows) r =
    let now = put m row.key (Some row.value) in
    let others = λ (x : FinalPair) (c : Contains rows x). bytes_eq-other x.key row.key
    (λ e. bytes_lt-apart row.key x.key (rises_below (λ (y : FinalPair). y.key) row rows x r c) (sym e)) in
    let here : filled now rows row.key ≡ Some row.value =
    filled_other now rows row.key others
    ∙ ap (λ b. cond b (Some row.value) (m row.key)) (bytes_eq-itself row.key) in
    ap (λ v. cons_option (visible_pair_of row.key v) (filter_map (λ k. visible_pair_of k (filled now rows k)) (keys_of rows))) here
    ∙ ap (λ l. row ∷ l) (rows_made now rows (keys_rise-tail row.key (keys_of rows) r))

pairs_made : (f : Key → Option Entry) → ((k : Key) (w : Entry) → f k ≡ Some w → w.version.key ≡ k) → (ks : List Key)
    → visible_pairs (filter_map f ks) ≡ filter_map (λ k. visible_pair_of k (shown (f k))) ks
pairs_made f own [] = refl
pairs_made f own (k ∷ ks) = by_first (f k) refl (pairs_made f own ks)
  where
    by_first : (o : Option Entry) → f k ≡ o
        → visible_pairs (filter_map f ks) ≡ filter_map (λ j. visible_pair_of j (shown (f j))) ks
        → visible_pairs (cons_option o (filter_map f ks))
        ≡ cons_option (visible_pair_of k (shown o)) (filter_map (λ j. visible_pair_of j (shown (f j))) ks)
    by_first None e rest = rest
    by_first (Some w) e rest =
        ap (λ j. cons_option (visible_pair_of j (visible w.content)) (visible_pairs (filter_map f ks))) (own k w e)
        ∙ ap (cons_option (visible_pair_of k (visible w.content))) rest

-- ---- the contents

pub holds_rows : (n : ℕ) (c : Course) (rows : List FinalPair) → IsIdle (filled empty rows) (with_keys [] rows) n c
    → keys_rise (keys_of rows) ≡ true → contents_after c ≡ rows
holds_rows n c rows is rise =
    let log = acts c in
    let newest = λ (k : Key). committed k (commit_count log) log in
    pairs_made newest (λ k w e. (contents_is k (commit_count log) log w e).0) (keys log)
    ∙ filter_map_same (λ k. visible_pair_of k (shown (newest k))) (λ k. visible_pair_of k (filled empty rows k)) (keys log)
    (λ k. ap (visible_pair_of k) (is.log.holds k))
    ∙ ap (filter_map (λ k. visible_pair_of k (filled empty rows k))) (is.log.keys ∙ keys_made [] rows rise)
    ∙ rows_made empty rows rise
