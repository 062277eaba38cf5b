-- The parts of a trace, written one behind the other.
use Rattle.std.proofs.Common.{◌≡◌, ℕ, List, [], ◌∷◌, ◌++◌, map, refl, ap, ◌∙◌, append_assoc}
use Rattle.mk_history.specs.Histories.{History}
use Rattle.mk_kept.specs.declared.head.Head.{Head}
use Rattle.mk_kept.specs.Heads.{history}
use Rattle.mk_trace_lines.specs.TraceLines.{TraceLine, text_of, line_text}
use Rattle.mk_trace_lines.specs.TraceLines.TraceLine.{Opens, Sizes, Ends}
use Rattle.mk_trace_text.specs.Traces.{client_lines, key_line, rounds_lines, zeros, trace_text}
use Rattle.mk_trace_text.proofs.LinesMore.{grown, grown_line}

pub written : (run : History) (head : Head) (begun columns a b c d e f : List ℕ) → history head run.rounds ≡ run → a ≡ []
    → b ≡ a ++ text_of head.client_names.names head.key_names.names (Opens head.version ∷ Sizes head.size ∷ [])
    → c ≡ b ++ text_of head.client_names.names head.key_names.names (client_lines head.client_names.names 0 columns)
    → d ≡ c ++ text_of head.client_names.names head.key_names.names (map key_line head.key_names.names)
    → e ≡ d ++ text_of head.client_names.names head.key_names.names (rounds_lines begun 0 run.rounds)
    → f ≡ e ++ line_text head.client_names.names head.key_names.names Ends
    → columns ≡ head.client_columns → begun ≡ zeros columns
    → f ≡ trace_text run
written run head begun columns a b c d e f er ea eb ec ed ee ef es en =
    let clients = head.client_names.names in
    let keys = head.key_names.names in
    let own = history head run.rounds in
    let first = Opens head.version ∷ Sizes head.size ∷ [] in
    let declared = client_lines clients 0 columns in
    let named = map key_line keys in
    let rounds = rounds_lines begun 0 run.rounds in
    let at_b : b ≡ [] ++ text_of clients keys first = grown clients keys [] a b [] first first ea eb refl in
    let at_c : c ≡ [] ++ text_of clients keys (first ++ declared) = grown clients keys [] b c first declared (first ++ declared) at_b ec refl in
    let at_d : d ≡ [] ++ text_of clients keys ((first ++ declared) ++ named) = grown clients keys [] c d (first ++ declared) named ((first ++ declared) ++ named) at_c ed refl in
    let at_e : e ≡ [] ++ text_of clients keys (((first ++ declared) ++ named) ++ rounds) =
    grown clients keys [] d e ((first ++ declared) ++ named) rounds (((first ++ declared) ++ named) ++ rounds) at_d ee refl in
    let at_f : f ≡ [] ++ text_of clients keys ((((first ++ declared) ++ named) ++ rounds) ++ Ends ∷ []) =
    grown_line clients keys [] e f (((first ++ declared) ++ named) ++ rounds) ((((first ++ declared) ++ named) ++ rounds) ++ Ends ∷ []) Ends at_e ef refl in
    let whole : (((first ++ declared) ++ named) ++ rounds) ++ Ends ∷ [] ≡ ((first ++ declared) ++ named) ++ (rounds ++ Ends ∷ []) = append_assoc ((first ++ declared) ++ named) rounds (Ends ∷ []) in
    let same : rounds ≡ rounds_lines (zeros head.client_columns) 0 run.rounds = ap (λ (x : List ℕ). rounds_lines x 0 run.rounds) (en ∙ ap zeros es) in
    at_f ∙ ap (text_of clients keys) (whole ∙ ap (λ (x : List TraceLine). ((first ++ declared) ++ named) ++ (x ++ Ends ∷ [])) same
    ∙ ap (λ (x : List ℕ). ((first ++ client_lines clients 0 x) ++ named) ++ (rounds_lines (zeros head.client_columns) 0 run.rounds ++ Ends ∷ [])) es)
    ∙ ap trace_text er
