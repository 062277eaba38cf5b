-- An attempt is of its client's column.
use Rattle.std.proofs.Common.{◌≡◌, ◌≤◌, ℕ, zero, suc, ◌+◌, ◌-◌, Bool, true, false, refl, arith, inl, inr, ap, ◌∙◌, List, [], ◌∷◌, subst, cond}
use Rattle.std.specs.Prelude.{slice_index_or, ◌==◌}
use Rattle.std.proofs.lemmas.Bool.{eqb-true}
use Rattle.mk_lists.specs.Among.{Among}
use Rattle.mk_lists.proofs.Members.{Among-map}
use Rattle.mk_lists.proofs.Lookups.{find_tells}
use Rattle.mk_model.specs.ColumnState.{ClientState, is_client}
use Rattle.mk_history.specs.Histories.{clients_of}
use Rattle.mk_run_laws.specs.RunLaws.{IdsInRuns}
use Rattle.mk_run_laws.specs.Lifts.{IdsAreOfColumns}
use Rattle.mk_run_laws.proofs.ClientNumbers.{from_here}
use Rattle.mk_run_laws.proofs.StampColumns.{numbers_then}

-- one place further
place-next : (columns : List ℕ) (x k n : ℕ) → k + 1 ≤ n → slice_index_or (x ∷ columns) (n - k) 0 ≡ slice_index_or columns (n - (k + 1)) 0
place-next columns x k n le =
    let step : n - k ≡ suc (n - (k + 1)) = omega (arith, le) in
    ap (λ (i : ℕ). slice_index_or (x ∷ columns) i 0) step

pub column_there : (c k : ℕ) (columns : List ℕ) (n : ℕ) → Among n (clients_of c k columns) → slice_index_or columns (n - k) 0 ≡ c
column_there c k [] n a = absurd a
column_there c k (x ∷ columns) n a = by (column_there c (k + 1) columns n) (x == c) refl a
  where
    here : x ≡ c → k ≡ n → slice_index_or (x ∷ columns) (n - k) 0 ≡ c
    here is same = let none : n - k ≡ zero = omega (arith, same) in ap (λ (i : ℕ). slice_index_or (x ∷ columns) i 0) none ∙ is

    by : (Among n (clients_of c (k + 1) columns) → slice_index_or columns (n - (k + 1)) 0 ≡ c) → (b : Bool) → (x == c) ≡ b →
        Among n (cond b (k ∷ clients_of c (k + 1) columns) (clients_of c (k + 1) columns)) → slice_index_or (x ∷ columns) (n - k) 0 ≡ c
    by again true e (inl same) = here (eqb-true x c e) same
    by again true e (inr later) = place-next columns x k n (from_here c (k + 1) columns n later) ∙ again later
    by again false e later = place-next columns x k n (from_here c (k + 1) columns n later) ∙ again later

pub ids_are_of_columns : IdsInRuns → IdsAreOfColumns
ids_are_of_columns ids run legal c lt m k id a there =
    let own = (ids run legal c lt m k).attempts id a there in
    let found = find_tells (is_client id.client) m.column.clients own.client own.found in
    let number = eqb-true (own.client).number id.client found.1 in
    let among = subst (Among (own.client).number) (numbers_then run c m k) (Among-map (λ (x : ClientState). x.number) own.client m.column.clients found.0) in
    column_there c 1 run.client_columns id.client (subst (λ (n : ℕ). Among n (clients_of c 1 run.client_columns)) number among)
