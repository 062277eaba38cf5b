-- What is noted in turn stands for what was found so far.
use Rattle.std.proofs.Common.{◌≡◌, ◌∙◌, Bool, true, false, refl, sym, ap, List, [], ◌∷◌, ◌++◌, Option, Some, None, if◌then◌else◌, append_assoc}
use Rattle.std.specs.Prelude.{find, option_map, map}
use Rattle.std.specs.Option.{option_or}
use Rattle.std.proofs.lemmas.List.{append-nil}
use Rattle.std.proofs.lemmas.List.Folds.{find-append}
use Rattle.mk_lists.specs.Changed.{change}
use Rattle.mk_lists.specs.Keyed.{IsIndex}
use Rattle.mk_lists.proofs.Changes.{find-change, find-change_other, map-change}
use Rattle.mk_lists.proofs.Lookups.{find_push, find_push_other}
use Rattle.mk_txn.specs.declared.TxnId.{TxnId}
use Rattle.mk_txn.specs.Transactions.{same_id}
use Rattle.mk_txn.proofs.IdOrder.{same_id-tells, same_id-apart}
use Rattle.mk_history.specs.declared.Path.{Path}
use Rattle.mk_history.specs.Learning.{Found, first_path}
use Rattle.mk_run.specs.declared.firsts.FirstLearning.{FirstLearning}
use Rattle.mk_run.specs.Firsts.{first_id, change_first, is_first_of, first_in, with_path, noted, noted_after, all_noted, kept_of_found, first_found, StandsForFound}

-- a path that is named leaves the index as it is
pub index-changed : (id : TxnId) (path : Option Path) (old new : List FirstLearning) (keys : List TxnId) → new ≡ change_first id (with_path path) old → IsIndex first_id old keys → IsIndex first_id new keys
index-changed id path old new keys is h = record {
  keys_are = h.keys_are ∙ sym (ap (map first_id) is ∙ map-change first_id (is_first_of id) (with_path path) (λ first. refl) old);
  distinct = h.distinct;
}

-- what is known of an attempt after one more learning of it
abbrev joined : FirstLearning → Option FirstLearning → Option FirstLearning
joined learning None = Some learning
joined learning (Some first) = Some (with_path learning.path first)

-- what is known of this attempt after one more learning of any
abbrev known_after : TxnId → FirstLearning → Option FirstLearning → Option FirstLearning
known_after id learning known = if same_id learning.id id then joined learning known else known

-- ---- of what is kept

noted-same : (id : TxnId) (learning : FirstLearning) (firsts : List FirstLearning) (before : Option FirstLearning) → same_id learning.id id ≡ true → first_in learning.id firsts ≡ before →
    first_in id (noted_after learning firsts before) ≡ joined learning (first_in id firsts)
noted-same id learning firsts None same none =
    let here : first_in id firsts ≡ None = ap (λ (i : TxnId). first_in i firsts) (sym (same_id-tells learning.id id same)) ∙ none in
    find_push (is_first_of id) firsts learning here same ∙ sym (ap (joined learning) here)
noted-same id learning firsts (Some first) same there =
    let is : learning.id ≡ id = same_id-tells learning.id id same in
    let here : first_in id firsts ≡ Some first = ap (λ (i : TxnId). first_in i firsts) (sym is) ∙ there in
    ap (λ (i : TxnId). first_in id (change (is_first_of i) (with_path learning.path) firsts)) is
    ∙ find-change (is_first_of id) (with_path learning.path) firsts (λ x. refl)
    ∙ ap (option_map (with_path learning.path)) here
    ∙ sym (ap (joined learning) here)

noted-other : (id : TxnId) (learning : FirstLearning) (firsts : List FirstLearning) (before : Option FirstLearning) → same_id learning.id id ≡ false →
    first_in id (noted_after learning firsts before) ≡ first_in id firsts
noted-other id learning firsts None other = find_push_other (is_first_of id) firsts learning other
noted-other id learning firsts (Some first) other =
    find-change_other (is_first_of learning.id) (is_first_of id) (with_path learning.path) firsts (λ x is. same_id-apart x.id learning.id id other is) (λ x. refl)

noted-known : (id : TxnId) (learning : FirstLearning) (firsts : List FirstLearning) → first_in id (noted learning firsts) ≡ known_after id learning (first_in id firsts)
noted-known id learning firsts = by_test (same_id learning.id id) refl
  where
    by_test : (b : Bool) → same_id learning.id id ≡ b → first_in id (noted learning firsts) ≡ (if b then joined learning (first_in id firsts) else first_in id firsts)
    by_test true same = noted-same id learning firsts (first_in learning.id firsts) same refl
    by_test false other = noted-other id learning firsts (first_in learning.id firsts) other

-- ---- of what was found

pub option_or-assoc : {X : Type 0} (a b c : Option X) → option_or a (option_or b c) ≡ option_or (option_or a b) c
option_or-assoc None b c = refl
option_or-assoc (Some x) b c = refl

pub or_none : {X : Type 0} (o : Option X) → option_or o None ≡ o
or_none None = refl
or_none (Some x) = refl

-- the path of this finding, where it is of this attempt
abbrev path_for : TxnId → Found → Option Path
path_for id f = if same_id f.id id then f.own_path else None

path-one : (id : TxnId) (f : Found) → first_path id (f ∷ []) ≡ path_for id f
path-one id f = by_test (same_id f.id id)
  where
    by_test : (b : Bool) → (if b then option_or f.own_path None else None) ≡ (if b then f.own_path else None)
    by_test true = or_none f.own_path
    by_test false = refl

path-push : (id : TxnId) (all : List Found) (f : Found) → first_path id (all ++ f ∷ []) ≡ option_or (first_path id all) (path_for id f)
path-push id [] f = path-one id f
path-push id (x ∷ all) f = by_test (same_id x.id id) (path-push id all f)
  where
    by_test : (b : Bool) → first_path id (all ++ f ∷ []) ≡ option_or (first_path id all) (path_for id f) →
        (if b then option_or x.own_path (first_path id (all ++ f ∷ [])) else first_path id (all ++ f ∷ []))
        ≡ option_or (if b then option_or x.own_path (first_path id all) else first_path id all) (path_for id f)
    by_test true rest = ap (option_or x.own_path) rest ∙ option_or-assoc x.own_path (first_path id all) (path_for id f)
    by_test false rest = rest

-- an attempt of which nothing was found has no path
path-none : (id : TxnId) (all : List Found) → find (λ f. same_id f.id id) all ≡ None → first_path id all ≡ None
path-none id [] e = refl
path-none id (x ∷ all) e = by_test (same_id x.id id) (path-none id all) e
  where
    by_test : (b : Bool) → (find (λ f. same_id f.id id) all ≡ None → first_path id all ≡ None) → (if b then Some x else find (λ f. same_id f.id id) all) ≡ None →
        (if b then option_or x.own_path (first_path id all) else first_path id all) ≡ None
    by_test true rest none = absurd (cc none)
    by_test false rest none = rest none

-- what was found first of an attempt, with its path
abbrev with_first_path : Option Path → Found → FirstLearning
with_first_path path f = record { id = f.id; outcome = f.outcome; path = path }

found-push : (id : TxnId) (all : List Found) (f : Found) → first_found id (all ++ f ∷ []) ≡ known_after id (kept_of_found f) (first_found id all)
found-push id all f =
    ap (λ (path : Option Path). option_map (with_first_path path) (find (λ g. same_id g.id id) (all ++ f ∷ []))) (path-push id all f)
    ∙ ap (option_map (with_first_path (option_or (first_path id all) (path_for id f)))) (find-append (λ g. same_id g.id id) all (f ∷ []))
    ∙ by_cases (find (λ g. same_id g.id id) all) refl (same_id f.id id)
  where
    by_cases : (first : Option Found) → find (λ g. same_id g.id id) all ≡ first → (b : Bool) →
        option_map (with_first_path (option_or (first_path id all) (if b then f.own_path else None))) (option_or first (if b then Some f else None))
        ≡ (if b then joined (kept_of_found f) (option_map (with_first_path (first_path id all)) first) else option_map (with_first_path (first_path id all)) first)
    by_cases None none true = ap (λ (path : Option Path). Some (with_first_path (option_or path f.own_path) f)) (path-none id all none)
    by_cases None none false = refl
    by_cases (Some g) there true = refl
    by_cases (Some g) there false = ap (λ (path : Option Path). Some (with_first_path path g)) (or_none (first_path id all))

-- ---- both

pub nothing_stands : StandsForFound [] []
nothing_stands id = refl

noted_stands : (firsts : List FirstLearning) (all : List Found) (f : Found) → StandsForFound firsts all → StandsForFound (noted (kept_of_found f) firsts) (all ++ f ∷ [])
noted_stands firsts all f stands id =
    noted-known id (kept_of_found f) firsts ∙ ap (known_after id (kept_of_found f)) (stands id) ∙ sym (found-push id all f)

-- what is noted of all that is found later stands for all
pub all_noted_stand : (firsts : List FirstLearning) (all later : List Found) → StandsForFound firsts all → StandsForFound (all_noted (map kept_of_found later) firsts) (all ++ later)
all_noted_stand firsts all [] stands id = stands id ∙ ap (first_found id) (sym (append-nil all))
all_noted_stand firsts all (f ∷ later) stands id =
    all_noted_stand (noted (kept_of_found f) firsts) (all ++ f ∷ []) later (noted_stands firsts all f stands) id
    ∙ ap (first_found id) (append_assoc all (f ∷ []) later)
