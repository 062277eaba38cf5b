-- What columns see of the replicas, as far as it has been gathered.
use Rattle.std.proofs.Common.{◌≡◌, ◌≤◌, ℕ, zero, suc, ◌+◌, refl, sym, ap, ◌∙◌, arith, add-one, List, [], ◌∷◌, ◌++◌, length, map, take, Some}
use Rattle.std.specs.Prelude.{option_map, slice_get}
use Rattle.mk_trim.specs.declared.ReplicaView.{ReplicaView}
use Rattle.mk_words.specs.Bases.{kept_of}
use Rattle.mk_words.specs.KeptOutcomes.{KeptOutcomes}
use Rattle.mk_words.specs.declared.Phase.{Phase}
use Rattle.mk_model.specs.EpochState.{EpochState, ReplicaState, view_of, views_of}

module _ {X Y : Type 0} (f : X → Y) where
  taken-more : (xs : List X) (i : ℕ) (x : X) → slice_get xs i ≡ Some x → take i (map f xs) ++ f x ∷ [] ≡ take (suc i) (map f xs)
  taken-more [] i x e = absurd (cc)
  taken-more (y ∷ xs) zero x e = let same : y ≡ x = cc in ap (λ z. f z ∷ []) (sym same)
  taken-more (y ∷ xs) (suc i) x e = ap (λ rest. f y ∷ rest) (taken-more xs i x e)

  taken-all : (xs : List X) (i : ℕ) → length xs ≤ i → take i (map f xs) ≡ map f xs
  taken-all [] zero over = refl
  taken-all [] (suc i) over = refl
  taken-all (x ∷ xs) zero over = absurd (omega (arith, over))
  taken-all (x ∷ xs) (suc i) over = ap (λ rest. f x ∷ rest) (taken-all xs i (omega (arith, over)))

pub view-next : (state : EpochState) (i : ℕ) (views : List ReplicaView) (phase : Phase) (epoch : ℕ) (fates : KeptOutcomes) (replica : ReplicaState) →
    slice_get state.replicas i ≡ Some replica →
    option_map (λ (r : ReplicaState). r.phase) (slice_get state.replicas i) ≡ Some phase →
    option_map (λ (r : ReplicaState). r.adopted) (slice_get state.replicas i) ≡ Some epoch →
    fates ≡ kept_of replica.base → views ≡ take i (views_of state) →
    views ++ record { phase = phase; epoch = epoch; fates = fates } ∷ [] ≡ take (i + 1) (views_of state)
view-next state i views phase epoch fates replica there phase_is epoch_is fates_are so_far =
    let p : Some replica.phase ≡ Some phase = ap (option_map (λ (r : ReplicaState). r.phase)) (sym there) ∙ phase_is in
    let a : Some replica.adopted ≡ Some epoch = ap (option_map (λ (r : ReplicaState). r.adopted)) (sym there) ∙ epoch_is in
    let same : record { phase = phase; epoch = epoch; fates = fates } ≡ view_of replica = cc in
    ap (λ (vs : List ReplicaView). vs ++ record { phase = phase; epoch = epoch; fates = fates } ∷ []) so_far
    ∙ ap (λ (v : ReplicaView). take i (views_of state) ++ v ∷ []) same
    ∙ taken-more view_of state.replicas i replica there
    ∙ ap (λ (n : ℕ). take n (views_of state)) (sym (add-one i))

pub views-all : (state : EpochState) (i : ℕ) (views : List ReplicaView) → length state.replicas ≤ i → views ≡ take i (views_of state) → views ≡ views_of state
views-all state i views over so_far = so_far ∙ taken-all view_of state.replicas i over

count-map : {X Y : Type 0} (f : X → Y) (xs : List X) → length (map f xs) ≡ length xs
count-map f [] = refl
count-map f (x ∷ xs) = ap suc (count-map f xs)

pub view-count : (state : EpochState) → length (views_of state) ≡ length state.replicas
view-count state = count-map view_of state.replicas
