-- Lines that may come one behind the other, and the lines of a head.
use Rattle.std.proofs.Common.{◌≡◌, ℕ, ◌+◌, ◌≤◌, ◌<◌, true, List, [], ◌∷◌, ◌++◌, length, map, refl, sym, ap, subst, ◌∙◌, arith, append_assoc, inl, inr}
use Rattle.std.proofs.lemmas.List.{append-nil, length-append}
use Rattle.mk_lists.specs.Among.{Among, Among-append_right, Each, Each-among, AllDistinct}
use Rattle.mk_lists.proofs.EachMember.{Each-append_left}
use Rattle.mk_spelling.specs.Words.{is_name}
use Rattle.mk_history.specs.declared.RoundLog.{RoundLog}
use Rattle.mk_history.specs.Shape.{columns_of}
use Rattle.mk_trace_lines.specs.TraceLines.{TraceLine, key_name, spelling}
use Rattle.mk_trace_lines.specs.TraceLines.TraceLine.{Declares, Names}
use Rattle.mk_trace_text.specs.declared.section.Section.{Section}
use Rattle.mk_trace_text.specs.declared.section.Section.TheVariants as sections
use Rattle.mk_trace_text.specs.Traces.{zeros, client_lines, key_line}
use Rattle.mk_trace_text.specs.States.{State, no_round, after}
use Rattle.mk_trace_text.specs.Grammar.{in_keys, before_round}
use Rattle.mk_trace.proofs.GrownTables.{columns-push}
use Rattle.mk_trace_text.proofs.LinesMore.{zeros-more}
use Rattle.mk_trace.proofs.FieldsAgain.{AreNames, place_fresh}
use Rattle.mk_trace.proofs.Suited.{Suits, IsSound}

-- the line may come next, and is spelled as with all names
pub record IsNext (clients keys : List (List ℕ)) (all : List RoundLog) (s : State) (line : TraceLine) : Type 0 where
  pub sound : IsSound s.head
  pub suits : Suits all s line
  pub spelled : spelling s.head.client_names.names s.head.key_names.names line ≡ spelling clients keys line

abbrev pub EachNext : List (List ℕ) → List (List ℕ) → List RoundLog → State → List TraceLine → Type 0
EachNext clients keys all s [] = Unit {0}
EachNext clients keys all s (line ∷ lines) = IsNext clients keys all s line × EachNext clients keys all (after s line) lines

abbrev pub after_all : State → List TraceLine → State
after_all s [] = s
after_all s (line ∷ lines) = after_all (after s line) lines

-- the lines may come behind s, and leave t
pub record Leads (clients keys : List (List ℕ)) (all : List RoundLog) (s : State) (lines : List TraceLine) (t : State) : Type 0 where
  pub fits : EachNext clients keys all s lines
  pub leaves : after_all s lines ≡ t

fits-append : (clients keys : List (List ℕ)) (all : List RoundLog) (a b : List TraceLine) (s : State) → EachNext clients keys all s a
    → EachNext clients keys all (after_all s a) b → EachNext clients keys all s (a ++ b)
fits-append clients keys all [] b s h k = k
fits-append clients keys all (line ∷ a) b s h k = (h.0, fits-append clients keys all a b (after s line) h.1 k)

after_all-append : (a b : List TraceLine) (s : State) → after_all s (a ++ b) ≡ after_all (after_all s a) b
after_all-append [] b s = refl
after_all-append (line ∷ a) b s = after_all-append a b (after s line)

pub then : (clients keys : List (List ℕ)) (all : List RoundLog) (s m t : State) (a b : List TraceLine) → Leads clients keys all s a m → Leads clients keys all m b t
    → Leads clients keys all s (a ++ b) t
then clients keys all s m t a b h k = record {
  fits = fits-append clients keys all a b s h.fits (subst (λ (x : State). EachNext clients keys all x b) (sym h.leaves) k.fits);
  leaves = after_all-append a b s ∙ ap (λ (x : State). after_all x b) h.leaves ∙ k.leaves;
}

pub first : (clients keys : List (List ℕ)) (all : List RoundLog) (s m t : State) (line : TraceLine) (lines : List TraceLine) → IsNext clients keys all s line → after s line ≡ m
    → Leads clients keys all m lines t → Leads clients keys all s (line ∷ lines) t
first clients keys all s m t line lines h e k =
    let rest = subst (λ (x : State). Leads clients keys all x lines t) (sym e) k in
    record { fits = (h, rest.fits); leaves = rest.leaves }

pub none_left : (clients keys : List (List ℕ)) (all : List RoundLog) (s t : State) → s ≡ t → Leads clients keys all s [] t
none_left clients keys all s t e = record { fits = tt; leaves = e }

-- ---- lists of names

pub name_at : (before : List (List ℕ)) (name : List ℕ) (rest : List (List ℕ)) → key_name (before ++ name ∷ rest) (length before) ≡ name
name_at [] name rest = refl
name_at (x ∷ before) name rest = name_at before name rest

pub distinct-left : (xs ys : List (List ℕ)) → AllDistinct (xs ++ ys) → AllDistinct xs
distinct-left [] ys d = tt
distinct-left (x ∷ xs) ys d = ((λ a. d.0 (left x xs ys a)), distinct-left xs ys d.1)
  where
    left : (x : List ℕ) (xs ys : List (List ℕ)) → Among x xs → Among x (xs ++ ys)
    left x [] ys a = absurd a
    left x (y ∷ xs) ys (inl e) = inl e
    left x (y ∷ xs) ys (inr a) = inr (left x xs ys a)

pub not_before : (before : List (List ℕ)) (name : List ℕ) (rest : List (List ℕ)) → AllDistinct (before ++ name ∷ rest) → Among name before → ⊥
not_before [] name rest d a = a
not_before (x ∷ before) name rest d (inl e) = d.0 (Among-append_right x before (name ∷ rest) (inl (sym e)))
not_before (x ∷ before) name rest d (inr a) = not_before before name rest d.1 a

-- what holds of the names of a run
pub record NamesHold (names : List (List ℕ)) : Type 0 where
  pub named : Each (λ name. is_name name ≡ true) names
  pub distinct : AllDistinct names

pub front_names : (before rest names : List (List ℕ)) → before ++ rest ≡ names → NamesHold names → AreNames before
front_names before rest names e h =
    let k = subst (λ (x : List (List ℕ)). NamesHold x) (sym e) h in
    record { named = Each-append_left (λ (w : List ℕ). is_name w ≡ true) before rest k.named; distinct = distinct-left before rest k.distinct }

pub next_name : (before : List (List ℕ)) (name : List ℕ) (rest names : List (List ℕ)) → before ++ name ∷ rest ≡ names → NamesHold names → is_name name ≡ true
next_name before name rest names e h =
    let k = subst (λ (x : List (List ℕ)). NamesHold x) (sym e) h in
    Each-among (λ (w : List ℕ). is_name w ≡ true) name (before ++ name ∷ rest) k.named (Among-append_right name before (name ∷ rest) (inl refl))

pub next_fresh : (before : List (List ℕ)) (name : List ℕ) (rest names : List (List ℕ)) → before ++ name ∷ rest ≡ names → NamesHold names → Among name before → ⊥
next_fresh before name rest names e h =
    let k = subst (λ (x : List (List ℕ)). NamesHold x) (sym e) h in
    not_before before name rest k.distinct

shorter : (before : List (List ℕ)) (name : List ℕ) (rest names : List (List ℕ)) (n : ℕ) → before ++ name ∷ rest ≡ names → length names ≤ n → length before < n
shorter before name rest names n e few = omega (arith, ap length e, length-append before (name ∷ rest), few)

columns_below : (a : ℕ) (olds : List ℕ) (c : ℕ) (news : List ℕ) → columns_of (olds ++ c ∷ news) ≤ a → c + 1 ≤ a
columns_below a [] c news h = omega (arith, h)
columns_below a (o ∷ olds) c news h = columns_below a olds c news (omega (arith, h))

columns_front : (a : ℕ) (olds news : List ℕ) → columns_of (olds ++ news) ≤ a → columns_of olds ≤ a
columns_front a [] news h = omega arith
columns_front a (o ∷ olds) news h = (let rest = columns_front a olds news (omega (arith, h)) in omega (arith, h, rest))

-- ---- the head

-- what is read in the head
abbrev pub heading : Section → ℕ → ℕ → ℕ → List ℕ → List (List ℕ) → List (List ℕ) → List ℕ → State
heading x v f n columns names keys begun =
    record {
      section = x;
      head = record {
        version = v;
        size = f;
        columns = n;
        client_columns = columns;
        client_names = record { names = names; limit = 64 };
        key_names = record { names = keys; limit = 256 };
      };
      begun = begun;
      count = 0;
      changes = 0;
      column = 0;
      replica = 0;
      key = 0;
      round = no_round;
      rounds = [];
    }

-- with these clients and keys
abbrev pub headed : Section → ℕ → ℕ → List ℕ → List (List ℕ) → List (List ℕ) → State
headed x v f columns names keys = heading x v f (columns_of columns) columns names keys (zeros columns)

declared : (v f : ℕ) (columns : List ℕ) (names : List (List ℕ)) (name : List ℕ) (c : ℕ)
    → after (headed sections.Clients v f columns names []) (Declares name c) ≡ headed sections.Clients v f (columns ++ c ∷ []) (names ++ name ∷ []) []
declared v f columns names name c =
    ap (λ (n : ℕ). heading sections.Clients v f n (columns ++ c ∷ []) (names ++ name ∷ []) [] (zeros columns ++ 0 ∷ [])) (sym (columns-push columns c))
    ∙ ap (λ (b : List ℕ). heading sections.Clients v f (columns_of (columns ++ c ∷ [])) (columns ++ c ∷ []) (names ++ name ∷ []) [] b) (sym (zeros-more columns c))

no_names : AreNames []
no_names = record { named = tt; distinct = tt }

pub clients_lead : (keys : List (List ℕ)) (all : List RoundLog) (v f : ℕ) (names : List (List ℕ)) (columns : List ℕ) → f ≤ 3 → NamesHold names → length names ≤ 64
    → columns_of columns ≤ 8
    → (before rest : List (List ℕ)) (olds news : List ℕ) → before ++ rest ≡ names → olds ++ news ≡ columns → length rest ≡ length news
    → Leads names keys all (headed sections.Clients v f olds before []) (client_lines names (length before) news) (headed sections.Clients v f columns names [])
clients_lead keys all v f names columns small h few low before [] olds [] e k same =
    none_left names keys all (headed sections.Clients v f olds before []) (headed sections.Clients v f columns names [])
    (ap (λ (x : List ℕ). headed sections.Clients v f x before []) (sym (append-nil olds) ∙ k)
    ∙ ap (λ (x : List (List ℕ)). headed sections.Clients v f columns x []) (sym (append-nil before) ∙ e))
clients_lead keys all v f names columns small h few low before (name ∷ rest) olds [] e k same = absurd (omega (arith, same))
clients_lead keys all v f names columns small h few low before [] olds (c ∷ news) e k same = absurd (omega (arith, same))
clients_lead keys all v f names columns small h few low before (name ∷ rest) olds (c ∷ news) e k same =
    let s = headed sections.Clients v f olds before [] in
    let m = headed sections.Clients v f (olds ++ c ∷ []) (before ++ name ∷ []) [] in
    let t = headed sections.Clients v f columns names [] in
    let below : columns_of (olds ++ c ∷ news) ≤ 8 = subst (λ (x : List ℕ). columns_of x ≤ 8) (sym k) low in
    let its : key_name names (length before) ≡ name = ap (λ (x : List (List ℕ)). key_name x (length before)) (sym e) ∙ name_at before name rest in
    let next : IsNext names keys all s (Declares name c) = record {
      sound = record { small = small; few_columns = columns_front 8 olds (c ∷ news) below; clients = front_names before (name ∷ rest) names e h; keys = no_names };
      suits = (
        refl,
        next_name before name rest names e h,
        (let one = columns_below 8 olds c news below in omega (arith, one)),
        shorter before name rest names 64 e few,
        place_fresh name before (next_fresh before name rest names e h),
      );
      spelled = refl;
    } in
    let more : Leads names keys all m (client_lines names (length (before ++ name ∷ [])) news) t =
    clients_lead keys all v f names columns small h few low (before ++ name ∷ []) rest (olds ++ c ∷ []) news (append_assoc before (name ∷ []) rest ∙ e) (append_assoc olds (c ∷ []) news ∙ k) (omega (arith, same)) in
    let from : Leads names keys all m (client_lines names (length before + 1) news) t =
    subst (λ (n : ℕ). Leads names keys all m (client_lines names n news) t) (length-append before (name ∷ [])) more in
    subst (λ (w : List ℕ). Leads names keys all s (Declares w c ∷ client_lines names (length before + 1) news) t) (sym its)
    (first names keys all s m t (Declares name c) (client_lines names (length before + 1) news) next (declared v f olds before name c) from)

pub keys_lead : (all : List RoundLog) (v f : ℕ) (columns : List ℕ) (clients keys : List (List ℕ)) → f ≤ 3 → NamesHold clients → NamesHold keys → length keys ≤ 256
    → columns_of columns ≤ 8
    → (x : Section) → in_keys x ≡ true → before_round x ≡ true → (before rest : List (List ℕ)) → before ++ rest ≡ keys
    → (y : Section) × (before_round y ≡ true)
    × Leads clients keys all (headed x v f columns clients before) (map key_line rest) (headed y v f columns clients keys)
keys_lead all v f columns clients keys small c h few low x at round before [] e = (
  x,
  round,
  none_left clients keys all (headed x v f columns clients before) (headed x v f columns clients keys)
      (ap (λ (l : List (List ℕ)). headed x v f columns clients l) (sym (append-nil before) ∙ e)),
)
keys_lead all v f columns clients keys small c h few low x at round before (name ∷ rest) e =
    let s = headed x v f columns clients before in
    let m = headed sections.Keys v f columns clients (before ++ name ∷ []) in
    let next : IsNext clients keys all s (Names name) = record {
      sound = record {
        small = small;
        few_columns = low;
        clients = record { named = c.named; distinct = c.distinct };
        keys = front_names before (name ∷ rest) keys e h;
      };
      suits = (at, next_name before name rest keys e h, shorter before name rest keys 256 e few, place_fresh name before (next_fresh before name rest keys e h));
      spelled = refl;
    } in
    let more = keys_lead all v f columns clients keys small c h few low sections.Keys refl refl (before ++ name ∷ []) rest (append_assoc before (name ∷ []) rest ∙ e) in (
      more.0,
      more.1,
      first clients keys all s m (headed more.0 v f columns clients keys) (Names name) (map key_line rest) next refl more.2,
    )
