-- Where a text is cut at a byte.
use Rattle.std.proofs.Common.{◌≡◌, ◌≢◌, ℕ, zero, suc, ◌<◌, Bool, true, false, cond, eqb, leb, ◌&&◌, List, [], ◌∷◌, ◌++◌, length, get_or, take, drop, Option, Some, None, refl, ap, subst, arith}
use Rattle.std.specs.List.{list_all}
use Rattle.std.proofs.lemmas.Option.{same_Some}
use Rattle.std.proofs.lemmas.Bool.{eqb-true, and_parts}
use Rattle.std.proofs.lemmas.Bool.Decides.{nat_tests}
use Rattle.mk_spelling.specs.Fields.{one_of, four_of, five_of, two_and_more}
use Rattle.mk_spelling.specs.Words.{cut, longer, none_left, words, is_name, is_letter, is_name_byte, are_name_bytes}

-- no such byte stands in the text
abbrev pub Lacks : ℕ → List ℕ → Type 0
Lacks mark [] = Unit {0}
Lacks mark (b ∷ bs) = (eqb b mark ≡ false) × Lacks mark bs

pub cut_at : (mark : ℕ) (bs : List ℕ) (i : ℕ) → i < length bs → get_or bs i 0 ≡ mark → ((k : ℕ) → k < i → get_or bs k 0 ≢ mark)
    → cut mark bs ≡ Some (take i bs, drop (suc i) bs)
cut_at mark [] i lt here before = absurd (omega arith)
cut_at mark (b ∷ bs) zero lt here before = grind (arith, nat_tests)
cut_at mark (b ∷ bs) (suc i) lt here before =
    let other : eqb b mark ≡ false = grind (arith, nat_tests, before 0 (omega arith)) in
    let rest : cut mark bs ≡ Some (take i bs, drop (suc i) bs) = cut_at mark bs i (omega arith) here (λ k below. before (suc k) (omega arith)) in
    rw (other, rest) refl

pub cut_none : (mark : ℕ) (bs : List ℕ) → ((k : ℕ) → k < length bs → get_or bs k 0 ≢ mark) → cut mark bs ≡ None
cut_none mark [] h = refl
cut_none mark (b ∷ bs) h =
    let other : eqb b mark ≡ false = grind (arith, nat_tests, h 0 (omega arith)) in
    let rest : cut mark bs ≡ None = cut_none mark bs (λ k below. h (suc k) (omega arith)) in
    rw (other, rest) refl

-- a cut text is its front, the mark and its rest
pub record IsCut (mark : ℕ) (bs front rest : List ℕ) : Type 0 where
  pub parts : bs ≡ front ++ mark ∷ rest
  pub lacks : Lacks mark front

abbrev some_of : {A : Type 0} → A → Option A
some_of x = Some x

grown : (mark b : ℕ) (bs : List ℕ) (p q : List ℕ × List ℕ) → eqb b mark ≡ false → (b ∷ p.0, p.1) ≡ q → IsCut mark bs p.0 p.1 → IsCut mark (b ∷ bs) q.0 q.1
grown mark b bs p q other same h =
    subst (λ (r : List ℕ × List ℕ). IsCut mark (b ∷ bs) r.0 r.1) same (record { parts = ap (λ (r : List ℕ). b ∷ r) h.parts; lacks = (other, h.lacks) })

pub IsCut-from_cut : (mark : ℕ) (bs : List ℕ) (q : List ℕ × List ℕ) → cut mark bs ≡ Some q → IsCut mark bs q.0 q.1
IsCut-from_cut mark [] q e = absurd cc
IsCut-from_cut mark (b ∷ bs) q e = here (eqb b mark) refl (cut mark bs) (λ p. IsCut-from_cut mark bs p) e
  where
    here : (t : Bool) → eqb b mark ≡ t → (c : Option (List ℕ × List ℕ)) → ((p : List ℕ × List ℕ) → c ≡ Some p → IsCut mark bs p.0 p.1)
        → cond t (Some ([], bs)) (longer b c) ≡ Some q → IsCut mark (b ∷ bs) q.0 q.1
    here true t c ih h =
        subst (λ (r : List ℕ × List ℕ). IsCut mark (b ∷ bs) r.0 r.1) (same_Some ([], bs) q h) (record { parts = ap (λ (x : ℕ). x ∷ bs) (eqb-true b mark t); lacks = tt })
    here false t None ih h = absurd cc
    here false t (Some p) ih h = grown mark b bs p q t (same_Some (b ∷ p.0, p.1) q h) (ih p refl)

pub Lacks-from_none : (mark : ℕ) (bs : List ℕ) → cut mark bs ≡ None → Lacks mark bs
Lacks-from_none mark [] e = tt
Lacks-from_none mark (b ∷ bs) e = here (eqb b mark) refl (cut mark bs) (λ h. Lacks-from_none mark bs h) e
  where
    here : (t : Bool) → eqb b mark ≡ t → (c : Option (List ℕ × List ℕ)) → (c ≡ None → Lacks mark bs) → cond t (Some ([], bs)) (longer b c) ≡ None
        → Lacks mark (b ∷ bs)
    here true t c ih h = absurd cc
    here false t None ih h = (t, ih refl)
    here false t (Some p) ih h = absurd cc

-- and the other way round
pub cut-parts : (mark : ℕ) (front rest : List ℕ) → Lacks mark front → cut mark (front ++ mark ∷ rest) ≡ Some (front, rest)
cut-parts mark [] rest h = grind (arith, nat_tests)
cut-parts mark (b ∷ bs) rest h = rw (h.0, cut-parts mark bs rest h.1) refl

-- the words of a text that is cut at its first space
pub words-lacks : (bs : List ℕ) → Lacks 32 bs → words bs ≡ bs ∷ []
words-lacks [] h = refl
words-lacks (b ∷ bs) h = rw (h.0, words-lacks bs h.1) refl

pub words-parts : (front rest : List ℕ) → Lacks 32 front → words (front ++ 32 ∷ rest) ≡ front ∷ words rest
words-parts [] rest h = refl
words-parts (b ∷ bs) rest h = rw (h.0, words-parts bs rest h.1) refl

pub words-none : (line : List ℕ) → cut 32 line ≡ None → words line ≡ line ∷ []
words-none line e = words-lacks line (Lacks-from_none 32 line e)

pub words-some : (line : List ℕ) (p : List ℕ × List ℕ) → cut 32 line ≡ Some p → words line ≡ p.0 ∷ words p.1
words-some line p e =
    let h = IsCut-from_cut 32 line p e in
    rw h.parts (words-parts p.0 p.1 h.lacks)

differs : (p : ℕ → Bool) (b mark : ℕ) → p b ≡ true → p mark ≡ false → eqb b mark ≡ false
differs p b mark t f = here (eqb b mark) refl
  where
    here : (e : Bool) → eqb b mark ≡ e → e ≡ false
    here true e =
        let same : p b ≡ p mark = ap p (eqb-true b mark e) in
        absurd cc
    here false e = refl

-- where each byte passes a test and the mark does not
pub Lacks-from_test : (p : ℕ → Bool) (bs : List ℕ) (mark : ℕ) → list_all p bs ≡ true → p mark ≡ false → Lacks mark bs
Lacks-from_test p [] mark e m = tt
Lacks-from_test p (b ∷ bs) mark e m =
    let h = and_parts (p b) (list_all p bs) e in
    (differs p b mark h.0 m, Lacks-from_test p bs mark h.1 m)

pub Lacks-name : (word : List ℕ) (mark : ℕ) → is_name word ≡ true → is_name_byte mark ≡ false → Lacks mark word
Lacks-name [] mark e m = tt
Lacks-name (b ∷ bs) mark e m =
    let h = and_parts (is_letter b && leb (length bs) 15) (are_name_bytes bs) e in
    let k = and_parts (is_letter b) (leb (length bs) 15) h.0 in
    let first : is_name_byte b ≡ true = rw k.0 refl in
    (differs is_name_byte b mark first m, Lacks-from_test is_name_byte bs mark h.1 m)

pub Lacks-append : (mark : ℕ) (a b : List ℕ) → Lacks mark a → Lacks mark b → Lacks mark (a ++ b)
Lacks-append mark [] b h k = k
Lacks-append mark (x ∷ a) b h k = (h.0, Lacks-append mark a b h.1 k)

-- a text has a first word
pub words_cons : (line : List ℕ) → (w : List ℕ) × (ws : List (List ℕ)) × (words line ≡ w ∷ ws)
words_cons line = here (cut 32 line) refl
  where
    here : (o : Option (List ℕ × List ℕ)) → cut 32 line ≡ o → (w : List ℕ) × (ws : List (List ℕ)) × (words line ≡ w ∷ ws)
    here None e = (line, [], words-none line e)
    here (Some p) e = (p.0, words p.1, words-some line p e)

-- what stands behind two words, behind one
pub one_too_many : (ws : List (List ℕ)) (a line : List ℕ) → ws ≡ a ∷ words line → one_of ws ≡ None
one_too_many ws a line e =
    let c = words_cons line in
    rw (e, c.2) refl

pub two_and_more_are : (ws : List (List ℕ)) (a b line : List ℕ) → ws ≡ a ∷ b ∷ words line → two_and_more ws ≡ Some (a, b, words line)
two_and_more_are ws a b line e =
    let c = words_cons line in
    rw (e, c.2) refl

pub some_left : (line : List ℕ) → none_left (words line) ≡ false
some_left line =
    let c = words_cons line in
    rw c.2 refl

-- five words are one, and four behind it
pub five_of_cons : (a b c d e : List ℕ) (ws : List (List ℕ)) → Some (b, c, d, e) ≡ four_of ws → Some (a, b, c, d, e) ≡ five_of (a ∷ ws)
five_of_cons a b c d e [] h = absurd cc
five_of_cons a b c d e (p ∷ []) h = absurd cc
five_of_cons a b c d e (p ∷ q ∷ []) h = absurd cc
five_of_cons a b c d e (p ∷ q ∷ r ∷ []) h = absurd cc
five_of_cons a b c d e (p ∷ q ∷ r ∷ s ∷ []) h =
    let same = same_Some (b, c, d, e) (p, q, r, s) h in
    ap (λ (x : List ℕ × List ℕ × List ℕ × List ℕ). some_of (a, x.0, x.1, x.2, x.3)) same
five_of_cons a b c d e (p ∷ q ∷ r ∷ s ∷ t ∷ ws) h = absurd cc
