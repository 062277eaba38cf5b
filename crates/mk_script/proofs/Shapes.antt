-- Items: the word that is read is written so, and what is written is read again.
use Rattle.std.proofs.Common.{◌≡◌, ℕ, ◌+◌, ◌-◌, ◌^◌, Bool, true, false, cond, eqb, ltb, ◌&&◌, List, [], ◌∷◌, ◌++◌, length, get_or, take, map, Option, Some, None, Ok, refl, ap, subst, ◌∙◌, arith}
use Rattle.std.specs.Fmt.{decimal}
use Rattle.std.specs.List.{AllByRecursion}
use Rattle.std.proofs.lemmas.Bool.{eqb-true}
use Rattle.std.proofs.lemmas.Bool.Decides.{nat_tests}
use Rattle.std.proofs.lemmas.List.{length-append, take_at}
use Rattle.std.proofs.lemmas.Grind.{common_steps}
use Rattle.mk_spelling.specs.declared.fault.TextFault.TheVariants as faults
use Rattle.mk_spelling.specs.Words.{cut, is_name, number}
use Rattle.mk_spelling.specs.Fields.{◌>>=◌, ◌>>◌, need, found, named}
use Rattle.mk_spelling.proofs.Cuts.{Lacks, Lacks-name, IsCut-from_cut, cut-parts}
use Rattle.std.proofs.lemmas.Bool.{and_parts}
use Rattle.mk_spelling.proofs.Numbers.{number-back, number-again}
use Rattle.mk_spelling.proofs.FieldLaws.{bind_ok, need_ok, found_ok, ok_is, named-back}
use Rattle.std.proofs.lemmas.Option.{same_Some}
use Rattle.mk_proc.specs.declared.ProcKind.{ProcKind}
use Rattle.mk_proc.specs.declared.ProcKind.TheVariants as procs
use Rattle.mk_script.specs.Grammar.{Mention, mention_text, IsMention}
use Rattle.mk_script.specs.LineWords.{proc_text, proc_list}
use Rattle.mk_script.specs.Grammar.Mention.{Reads, Writes, Computes, Deletes}
use Rattle.mk_script.specs.ItemShapes.{Shape, shape, shape_behind, write_shape, compute_shape, call_shape, argument_shape, closed, fits_version, are_items, mention_of, mentions_of}
use Rattle.mk_script.specs.ItemShapes.Shape.{ReadShape, WriteShape, ComputeShape, DeleteShape}

-- the word of a shape
abbrev shape_text : Shape → List ℕ
shape_text (ReadShape key) = 114 ∷ 58 ∷ key
shape_text (WriteShape key n) = 119 ∷ 58 ∷ (key ++ 61 ∷ n)
shape_text (ComputeShape key proc n) = 99 ∷ 58 ∷ (key ++ 61 ∷ (proc ++ 40 ∷ (n ++ 41 ∷ [])))
shape_text (DeleteShape key) = 100 ∷ 58 ∷ key

last_is : (b : ℕ) (bs : List ℕ) → get_or (b ∷ bs) (length bs) 0 ≡ 41 → b ∷ bs ≡ take (length bs) (b ∷ bs) ++ 41 ∷ []
last_is b [] h = ap (λ (x : ℕ). x ∷ []) h
last_is b (c ∷ bs) h = ap (λ (x : List ℕ). b ∷ x) (last_is c bs h)

closed-back : (text n : List ℕ) → closed text ≡ Some n → text ≡ n ++ 41 ∷ []
closed-back [] n e = absurd cc
closed-back (b ∷ bs) n e = at (length (b ∷ bs) - 1) (omega arith) (ltb 0 (length (b ∷ bs))) (grind (arith, nat_tests)) e
  where
    here : (t : Bool) → eqb (get_or (b ∷ bs) (length bs) 0) 41 ≡ t → cond t (Some (take (length bs) (b ∷ bs))) None ≡ Some n → b ∷ bs ≡ n ++ 41 ∷ []
    here true t h = last_is b bs (eqb-true _ 41 t) ∙ ap (λ (x : List ℕ). x ++ 41 ∷ []) (same_Some (take (length bs) (b ∷ bs)) n h)
    here false t h = absurd cc

    at : (k : ℕ) → k ≡ length bs → (some : Bool) → some ≡ true → cond (some && eqb (get_or (b ∷ bs) k 0) 41) (Some (take k (b ∷ bs))) None ≡ Some n
        → b ∷ bs ≡ n ++ 41 ∷ []
    at k same true z h =
        here (eqb (get_or (b ∷ bs) (length bs) 0) 41) refl (subst (λ (k : ℕ). cond (eqb (get_or (b ∷ bs) k 0) 41) (Some (take k (b ∷ bs))) None ≡ Some n) same h)
    at k same false z h = absurd cc

write-back : (rest : List ℕ) (sh : Shape) (o : Option (List ℕ × List ℕ)) → cut 61 rest ≡ o → write_shape o ≡ Some sh → 119 ∷ 58 ∷ rest ≡ shape_text sh
write-back rest sh None c e = absurd cc
write-back rest sh (Some p) c e = ap (λ (x : List ℕ). 119 ∷ 58 ∷ x) (IsCut-from_cut 61 rest p c).parts ∙ ap shape_text (same_Some (WriteShape p.0 p.1) sh e)

argument-back : (key proc rest : List ℕ) (sh : Shape) (o : Option (List ℕ)) → closed rest ≡ o → argument_shape key proc o ≡ Some sh
    → 99 ∷ 58 ∷ (key ++ 61 ∷ (proc ++ 40 ∷ rest)) ≡ shape_text sh
argument-back key proc rest sh None c e = absurd cc
argument-back key proc rest sh (Some n) c e =
    ap (λ (x : List ℕ). 99 ∷ 58 ∷ (key ++ 61 ∷ (proc ++ 40 ∷ x))) (closed-back rest n c) ∙ ap shape_text (same_Some (ComputeShape key proc n) sh e)

call-back : (key rest : List ℕ) (sh : Shape) (o : Option (List ℕ × List ℕ)) → cut 40 rest ≡ o → call_shape key o ≡ Some sh
    → 99 ∷ 58 ∷ (key ++ 61 ∷ rest) ≡ shape_text sh
call-back key rest sh None c e = absurd cc
call-back key rest sh (Some p) c e =
    ap (λ (x : List ℕ). 99 ∷ 58 ∷ (key ++ 61 ∷ x)) (IsCut-from_cut 40 rest p c).parts ∙ argument-back key p.0 p.1 sh (closed p.1) refl e

compute-back : (rest : List ℕ) (sh : Shape) (o : Option (List ℕ × List ℕ)) → cut 61 rest ≡ o → compute_shape o ≡ Some sh → 99 ∷ 58 ∷ rest ≡ shape_text sh
compute-back rest sh None c e = absurd cc
compute-back rest sh (Some p) c e = ap (λ (x : List ℕ). 99 ∷ 58 ∷ x) (IsCut-from_cut 61 rest p c).parts ∙ call-back p.0 p.1 sh (cut 40 p.1) refl e

shape_behind-back : (mark : ℕ) (rest : List ℕ) (sh : Shape) → shape_behind mark rest ≡ Some sh → mark ∷ 58 ∷ rest ≡ shape_text sh
shape_behind-back mark rest sh e = here (eqb mark 114) refl (eqb mark 119) refl (eqb mark 99) refl (eqb mark 100) refl e
  where
    marked : (n : ℕ) → eqb mark n ≡ true → mark ∷ 58 ∷ rest ≡ n ∷ 58 ∷ rest
    marked n t = ap (λ (x : ℕ). x ∷ 58 ∷ rest) (eqb-true mark n t)

    here : (a : Bool) → eqb mark 114 ≡ a → (b : Bool) → eqb mark 119 ≡ b → (c : Bool) → eqb mark 99 ≡ c → (d : Bool) → eqb mark 100 ≡ d
        → cond a (Some (ReadShape rest)) (cond b (write_shape (cut 61 rest)) (cond c (compute_shape (cut 61 rest)) (cond d (Some (DeleteShape rest)) None))) ≡ Some sh → mark ∷ 58 ∷ rest ≡ shape_text sh
    here true a b bb c cc' d dd h = marked 114 a ∙ ap shape_text (same_Some (ReadShape rest) sh h)
    here false a true b c cc' d dd h = marked 119 b ∙ write-back rest sh (cut 61 rest) refl h
    here false a false b true c d dd h = marked 99 c ∙ compute-back rest sh (cut 61 rest) refl h
    here false a false b false c true d h = marked 100 d ∙ ap shape_text (same_Some (DeleteShape rest) sh h)
    here false a false b false c false d h = absurd cc

pub shape-back : (word : List ℕ) (sh : Shape) → shape word ≡ Some sh → word ≡ shape_text sh
shape-back [] sh e = absurd cc
shape-back (mark ∷ []) sh e = absurd cc
shape-back (mark ∷ colon ∷ rest) sh e = here (eqb colon 58) refl e
  where
    here : (t : Bool) → eqb colon 58 ≡ t → cond t (shape_behind mark rest) None ≡ Some sh → mark ∷ colon ∷ rest ≡ shape_text sh
    here true t h = ap (λ (c : ℕ). mark ∷ c ∷ rest) (eqb-true colon 58 t) ∙ shape_behind-back mark rest sh h
    here false t h = absurd cc

-- the text of a mention as the text of a shape
abbrev raw : Mention → Shape
raw (Reads key) = ReadShape key
raw (Writes key n) = WriteShape key (decimal n)
raw (Computes key proc n) = ComputeShape key (proc_text proc) (decimal n)
raw (Deletes key) = DeleteShape key

raw_text : (m : Mention) → shape_text (raw m) ≡ mention_text m
raw_text (Reads key) = refl
raw_text (Writes key n) = refl
raw_text (Computes key proc n) = refl
raw_text (Deletes key) = refl

same_proc : (word : List ℕ) (proc : ProcKind) → named proc_text proc_list word ≡ Some proc → word ≡ proc_text proc
same_proc word proc e = named-back proc_text proc_list word proc e

mention_of-back : (version : ℕ) (sh : Shape) (m : Mention) → fits_version version (Some sh) ≡ true → mention_of (Some sh) ≡ Ok m
    → (sh ≡ raw m) × IsMention version m
mention_of-back version (ReadShape key) m v e =
    let a = need_ok (is_name key) faults.Name (Ok (Reads key)) m e in
    subst (λ (x : Mention). (ReadShape key ≡ raw x) × IsMention version x) (ok_is (Reads key) m a.1) (refl, record { well_named = a.0; fits = tt })
mention_of-back version (DeleteShape key) m v e =
    let a = need_ok (is_name key) faults.Name (Ok (Deletes key)) m e in
    subst (λ (x : Mention). (DeleteShape key ≡ raw x) × IsMention version x) (ok_is (Deletes key) m a.1) (refl, record { well_named = a.0; fits = eqb-true version 2 v })
mention_of-back version (WriteShape key word) m v e =
    let a = bind_ok (number 0 (2 ^ 64 - 1) word) (λ n. need (is_name key) faults.Name >> Ok (Writes key n)) m e in
    let n = number-back 0 (2 ^ 64 - 1) word a.0 (omega arith) a.1 in
    let b = need_ok (is_name key) faults.Name (Ok (Writes key a.0)) m a.2 in
    subst (λ (x : Mention). (WriteShape key word ≡ raw x) × IsMention version x) (ok_is (Writes key a.0) m b.1) (ap (λ (w : List ℕ). WriteShape key w) n.0, record { well_named = b.0; fits = omega (arith, n.2) })
mention_of-back version (ComputeShape key proc word) m v e =
    let a = bind_ok (number 0 (2 ^ 64 - 1) word) (λ n. need (is_name key) faults.Name >> (found faults.Unknown (named proc_text proc_list proc) >>= λ kind. Ok (Computes key kind n))) m e in
    let n = number-back 0 (2 ^ 64 - 1) word a.0 (omega arith) a.1 in
    let b = need_ok (is_name key) faults.Name (found faults.Unknown (named proc_text proc_list proc) >>= λ kind. Ok (Computes key kind a.0)) m a.2 in
    let p = bind_ok (found faults.Unknown (named proc_text proc_list proc)) (λ kind. Ok (Computes key kind a.0)) m b.1 in
    let q = same_proc proc p.0 (found_ok faults.Unknown (named proc_text proc_list proc) p.0 p.1) in
    subst (λ (x : Mention). (ComputeShape key proc word ≡ raw x) × IsMention version x) (ok_is (Computes key p.0 a.0) m p.2) (ap (λ (w : List ℕ). ComputeShape key w word) q ∙ ap (λ (w : List ℕ). ComputeShape key (proc_text p.0) w) n.0, record { well_named = b.0; fits = omega (arith, n.2) })

one-back : (version : ℕ) (word : List ℕ) (m : Mention) (o : Option Shape) → shape word ≡ o → fits_version version o ≡ true → mention_of o ≡ Ok m
    → (word ≡ mention_text m) × IsMention version m
one-back version word m None s v e = absurd cc
one-back version word m (Some sh) s v e =
    let h = mention_of-back version sh m v e in
    (shape-back word sh s ∙ ap shape_text h.0 ∙ raw_text m, h.1)

pub mentions-back : (version : ℕ) (ws : List (List ℕ)) (ms : List Mention) → are_items version ws ≡ true → mentions_of ws ≡ Ok ms
    → (ws ≡ map mention_text ms) × AllByRecursion (IsMention version) ms
mentions-back version [] ms v e = subst (λ (x : List Mention). ([] ≡ map mention_text x) × AllByRecursion (IsMention version) x) (ok_is [] ms e) (refl, tt)
mentions-back version (word ∷ ws) ms v e =
    let both = and_parts (fits_version version (shape word)) (are_items version ws) v in
    let a = bind_ok (mention_of (shape word)) (λ first. mentions_of ws >>= λ others. Ok (first ∷ others)) ms e in
    let b = bind_ok (mentions_of ws) (λ others. Ok (a.0 ∷ others)) ms a.2 in
    let one = one-back version word a.0 (shape word) refl both.0 a.1 in
    let rest = mentions-back version ws b.0 both.1 b.1 in
    let text : word ∷ ws ≡ map mention_text (a.0 ∷ b.0) = ap (λ (x : List ℕ). x ∷ ws) one.0 ∙ ap (λ (x : List (List ℕ)). mention_text a.0 ∷ x) rest.0 in
    subst (λ (x : List Mention). (word ∷ ws ≡ map mention_text x) × AllByRecursion (IsMention version) x) (ok_is (a.0 ∷ b.0) ms b.2) (text, (one.1, rest.1))

-- ---- and the other way round

closed-again : (n : List ℕ) → closed (n ++ 41 ∷ []) ≡ Some n
closed-again n =
    let len : length (n ++ 41 ∷ []) ≡ length n + 1 = length-append n (41 ∷ []) in
    let shorter : length (n ++ 41 ∷ []) - 1 ≡ length n = omega arith in
    let some : ltb 0 (length (n ++ 41 ∷ [])) ≡ true = grind (arith, nat_tests) in
    let last : get_or (n ++ 41 ∷ []) (length n) 0 ≡ 41 = grind (arith, common_steps) in
    let front : take (length n) (n ++ 41 ∷ []) ≡ n = take_at n (41 ∷ []) (length n) refl in
    rw (some, shorter, last, front) refl

-- names, numbers and procedures lack each mark
proc_lacks : (proc : ProcKind) → Lacks 40 (proc_text proc)
proc_lacks procs.Add = (refl, (refl, (refl, tt)))
proc_lacks procs.Sum = (refl, (refl, (refl, tt)))
proc_lacks procs.Max = (refl, (refl, (refl, tt)))

proc_again : (proc : ProcKind) → named proc_text proc_list (proc_text proc) ≡ Some proc
proc_again procs.Add = refl
proc_again procs.Sum = refl
proc_again procs.Max = refl

mention-again : (version : ℕ) (m : Mention) → IsMention version m
    → (shape (mention_text m) ≡ Some (raw m)) × (fits_version version (Some (raw m)) ≡ true) × (mention_of (Some (raw m)) ≡ Ok m)
mention-again version (Reads key) h = (refl, refl, rw h.well_named refl)
mention-again version (Writes key n) h =
    (rw (cut-parts 61 key (decimal n) (Lacks-name key 61 h.well_named refl)) refl, refl, rw (number-again 0 (2 ^ 64 - 1) n (omega arith) (omega arith) (omega (arith, h.fits)), h.well_named) refl)
mention-again version (Computes key proc n) h = (
  rw (cut-parts 61 key (proc_text proc ++ 40 ∷ (decimal n ++ 41 ∷ [])) (Lacks-name key 61 h.well_named refl), cut-parts 40 (proc_text proc) (decimal n ++ 41 ∷ []) (proc_lacks proc), closed-again (decimal n)) refl,
  refl,
  rw (number-again 0 (2 ^ 64 - 1) n (omega arith) (omega arith) (omega (arith, h.fits)), h.well_named, proc_again proc) refl,
)
mention-again version (Deletes key) h = (refl, rw h.fits refl, rw h.well_named refl)

pub mentions-again : (version : ℕ) (ms : List Mention) → AllByRecursion (IsMention version) ms
    → (mentions_of (map mention_text ms) ≡ Ok ms) × (are_items version (map mention_text ms) ≡ true)
mentions-again version [] h = (refl, refl)
mentions-again version (m ∷ ms) h =
    let one = mention-again version m h.0 in
    let rest = mentions-again version ms h.1 in
    (rw (one.0, one.2, rest.0) refl, rw (one.0, one.1, rest.1) refl)
