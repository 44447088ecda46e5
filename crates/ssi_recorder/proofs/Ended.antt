-- Aborts at the end change neither the version orders nor the final values.
use Rattle.std.proofs.Common.{◌≡◌, ℕ, ◌==◌, ◌&&◌, List, [], ◌∷◌, ◌++◌, map, Option, Some, None, is_some, filter, refl, sym, ◌∙◌, ap, append-nil, fold}
use Rattle.std.specs.List.{filter_map}
use Rattle.std.proofs.lemmas.List.Elements.{filter_map-append}
use Rattle.adya_values.specs.declared.edition.Edition.{Edition}
use Rattle.adya_keys.specs.Meaning.Keys.{key_eq}
use Rattle.adya_values.specs.Meaning.Histories.{Entry, Event, Abort, Order, FinalPair, History}
use Rattle.adya_values.specs.Meaning.Events.{written, last, shown, commit_of}
use Rattle.adya_values.specs.Meaning.Serial.{visible_pair_of}
use Rattle.adya_values.specs.Meaning.KeySets.{insert}
use Rattle.ssi_recorder.specs.Meaning.Recorded.{with_number, order_line, orders_of_events, finals_of_events}

abbrev with_aborts : List Event → List ℕ → List Event
with_aborts events ts = events ++ map Abort ts

no_commits : (ts : List ℕ) → filter_map commit_of (map Abort ts) ≡ []
no_commits [] = refl
no_commits (t ∷ ts) = no_commits ts

no_writes : (ts : List ℕ) → filter_map written (map Abort ts) ≡ []
no_writes [] = refl
no_writes (t ∷ ts) = no_writes ts

same_commits : (events : List Event) (ts : List ℕ)
    → filter_map commit_of events ≡ filter_map commit_of (with_aborts events ts)
same_commits events ts =
    let both : filter_map commit_of (with_aborts events ts) ≡ filter_map commit_of events =
    filter_map-append commit_of events (map Abort ts) ∙ ap (λ cs. filter_map commit_of events ++ cs) (no_commits ts) ∙
    append-nil (filter_map commit_of events) in
    sym both

same_writes : (events : List Event) (ts : List ℕ)
    → filter_map written events ≡ filter_map written (with_aborts events ts)
same_writes events ts =
    let both : filter_map written (with_aborts events ts) ≡ filter_map written events =
    filter_map-append written events (map Abort ts) ∙ ap (λ ws. filter_map written events ++ ws) (no_writes ts) ∙
    append-nil (filter_map written events) in
    sym both

-- the orders and the finals of these commits and these writes
abbrev last_in : List Entry → List ℕ → ℕ → Option Entry
last_in ws k t = last (filter (λ w. w.version.txn == t && key_eq w.version.key k) ws)

abbrev writers_in : List ℕ → List Entry → List ℕ → List ℕ
writers_in cs ws k = filter (λ t. is_some (last_in ws k t)) (fold with_number [] cs)

abbrev shown_in : List Entry → List ℕ → Option ℕ → Option (List ℕ)
shown_in ws k None = None
shown_in ws k (Some t) = shown (last_in ws k t)

abbrev keys_in : List Entry → List (List ℕ)
keys_in ws = fold (λ ks w. insert w.version.key ks) [] ws

abbrev orders_in : List ℕ → List Entry → List Order
orders_in cs ws = filter_map (λ k. order_line k (writers_in cs ws k)) (keys_in ws)

abbrev finals_in : List ℕ → List Entry → List FinalPair
finals_in cs ws = filter_map (λ k. visible_pair_of k (shown_in ws k (last (writers_in cs ws k)))) (keys_in ws)

-- so the orders and the finals are as before
pub orders_ended : (events : List Event) (ts : List ℕ)
    → orders_of_events events ≡ orders_of_events (events ++ map Abort ts)
orders_ended events ts =
    ap (λ cs. orders_in cs (filter_map written events)) (same_commits events ts) ∙
    ap (orders_in (filter_map commit_of (with_aborts events ts))) (same_writes events ts)

pub finals_ended : (events : List Event) (ts : List ℕ)
    → finals_of_events events ≡ finals_of_events (events ++ map Abort ts)
finals_ended events ts =
    ap (λ cs. finals_in cs (filter_map written events)) (same_commits events ts) ∙
    ap (finals_in (filter_map commit_of (with_aborts events ts))) (same_writes events ts)

-- histories of equal parts are equal
pub same_history : {d e : Edition} {es fs : List Event} {us vs : List ℕ} {os ps : List Order} {xs ys : List FinalPair}
    → d ≡ e → es ≡ fs → us ≡ vs → os ≡ ps → xs ≡ ys
    → ◌≡◌ {A = History} (record { edition = d; events = es; unfinished = us; orders = os; finals = xs })
    (record { edition = e; events = fs; unfinished = vs; orders = ps; finals = ys })
same_history {d} {e} {es} {fs} {us} {vs} {os} {ps} {xs} {ys} a b c o f =
    ap (λ x. record { edition = x; events = es; unfinished = us; orders = os; finals = xs }) a ∙
    ap (λ x. record { edition = e; events = x; unfinished = us; orders = os; finals = xs }) b ∙
    ap (λ x. record { edition = e; events = fs; unfinished = x; orders = os; finals = xs }) c ∙
    ap (λ x. record { edition = e; events = fs; unfinished = vs; orders = x; finals = xs }) o ∙
    ap (λ x. record { edition = e; events = fs; unfinished = vs; orders = ps; finals = x }) f
