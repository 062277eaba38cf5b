-- What a test of an outcome tells, and which of two accepted outcomes is the higher.
use Rattle.std.proofs.Common.{◌≡◌, ◌⊎◌, Bool, true, false, cond, refl, inl, inr, Option, Some, None}
use Rattle.std.specs.Prelude.{nat_lt}
use Rattle.mk_txn.specs.declared.Outcome.{Outcome}
use Rattle.mk_txn.specs.declared.Outcome.TheVariants.{Commit, Abort}
use Rattle.mk_txn.specs.declared.Accepted.{Accepted}
use Rattle.mk_txn.specs.Outcomes.{is_commit, higher}

pub is_commit-tells : (o : Outcome) → is_commit o ≡ true → o ≡ Commit
is_commit-tells Commit e = refl
is_commit-tells (Abort cause) e = absurd (cc e)

-- the higher of two is one of them
pub higher-cases : (a b : Option Accepted) (c : Accepted) → higher a b ≡ Some c → (a ≡ Some c) ⊎ (b ≡ Some c)
higher-cases None b c e = inr e
higher-cases (Some a) None c e = inl e
higher-cases (Some a) (Some b) c e = by (nat_lt a.view b.view) e
  where
    by : (t : Bool) → cond t (Some b) (Some a) ≡ Some c → (Some a ≡ Some c) ⊎ (Some b ≡ Some c)
    by true e = inr e
    by false e = inl e
