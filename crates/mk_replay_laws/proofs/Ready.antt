-- What a global line may go by.
use Rattle.std.proofs.Common.{◌≡◌, ℕ, true, Bool, ◌&&◌, sym, subst, ap, List, [], ◌∷◌, ◌++◌, length}
use Rattle.std.specs.Prelude.{nat_lt}
use Rattle.std.specs.List.{list_all}
use Rattle.std.proofs.lemmas.Bool.{and_from}
use Rattle.std.proofs.lemmas.List.{append-nil}
use Rattle.mk_lists.specs.Among.{Among}
use Rattle.mk_lists.proofs.EachMember.{Each-from_Among}
use Rattle.mk_words.specs.declared.Entry.{Entry}
use Rattle.mk_words.specs.declared.Fated.{Fated}
use Rattle.mk_words.specs.declared.GlobalEntry.{GlobalEntry}
use Rattle.mk_words.specs.declared.GlobalLine.{GlobalLine}
use Rattle.mk_words.specs.declared.GlobalLine.TheVariants.{Wipe, Ask, Promise, Merge, Adopt, Enter}
use Rattle.mk_words.specs.Rebuilding.{names_below, NamesBelow}
use Rattle.mk_model.specs.EpochState.{EpochState, MadeBase}
use Rattle.mk_column_laws.specs.Items.{IsOfKeys, ItemsOf}
use Rattle.mk_epoch_laws.specs.FitLaws.{MayHandIn, LineFits, IsReached}
use Rattle.mk_history.specs.declared.RoundLog.{RoundLog}
use Rattle.mk_history.specs.Histories.{History}
use Rattle.mk_history.specs.Legality.{IsLegal, EachRoundLegal, IsLegalRound}
use Rattle.mk_history.specs.Shape.{HasShape}
use Rattle.mk_history.specs.Wholes.{WholeState, first_state, state_through, last_state, entries_of, handed_in}
use Rattle.mk_run_laws.specs.RunEvents.{moment_of, IsMomentOf}
use Rattle.mk_run_laws.specs.Cuts.{cut, cut_round, IsCutAt, CutsAreLegal, CutsHaveShape}
use Rattle.mk_run_laws.specs.Ends.{whole_within, last_moment}
use Rattle.mk_run_laws.specs.Lifts.{MomentsOfRounds, MomentsHaveSettings, ItemsInRuns}
use Rattle.mk_base_laws.specs.Handing.{EndsMayHandIn, EndsAreReached}
use Rattle.mk_base_laws.specs.Members.{BaseMembers, IsMemberOf}
use Rattle.mk_replay_laws.specs.AtLines.{IsReady, LinesAreReady}

-- a transaction of items of these keys names no other
names_from_items : (keys : ℕ) (f : Fated) → IsOfKeys keys f.txn → names_below keys f.txn ≡ true
names_from_items keys f h =
    and_from (list_all (λ item. nat_lt item.key keys) f.txn.reads) (list_all (λ item. nat_lt item.key keys) f.txn.writes) h.read h.written

-- at the end of a legal run
module _ (moments : MomentsOfRounds) (settings : MomentsHaveSettings) (items : ItemsInRuns) (members : BaseMembers) (run : History) (legal : IsLegal run) where
  at_last : (c : ℕ) → IsMomentOf run c (last_moment run c)
  at_last c = moments run c run.rounds [] (sym (append-nil run.rounds))

  of_member : (made : MadeBase) (f : Fated) → IsMemberOf run made f → names_below (length run.key_names) f.txn ≡ true
  of_member made f m =
      let facts = items run legal m.column m.in_run (last_moment run m.column) (at_last m.column) in
      let keys = settings run m.column (last_moment run m.column) (at_last m.column) in
      names_from_items (length run.key_names) f
      (subst (λ k. IsOfKeys k f.txn) keys.keys ((facts.attempts f.txn.id m.attempt m.found).txn f.txn m.stamped))

  pub bases_name_keys : (made : MadeBase) → Among made (last_state run).epochs.made → NamesBelow (length run.key_names) made.base
  bases_name_keys made among =
      Each-from_Among (λ (f : Fated). names_below (length run.key_names) f.txn ≡ true) made.base.list (λ f a. of_member made f (members run legal made among f a))

module _ (legals : CutsAreLegal) (shapes : CutsHaveShape) (moments : MomentsOfRounds) (settings : MomentsHaveSettings) (items : ItemsInRuns) (members : BaseMembers)
    (may : EndsMayHandIn) (ends : EndsAreReached) where
  pub lines_are_ready : LinesAreReady
  lines_are_ready run shape done rest round split before lines more in_round so_far =
      record {
        reached = subst IsReached at.epochs (ends short short_shape at.legal);
        fits = fits;
        names = λ made among. bases_name_keys moments settings items members short at.legal made (subst (λ (e : EpochState). Among made e.made) (sym at.epochs) among);
      }
    where
      short : History
      short = cut run done round lines

      at : IsCutAt run done round lines
      at = legals run done round lines before so_far

      short_shape : HasShape short
      short_shape = shapes run done rest round lines more shape split in_round

      whole : WholeState
      whole = whole_within run done round lines

      fits : (line : GlobalLine) → LineFits whole.epochs (handed_in whole line) line
      fits (Promise epoch r) =
          subst (λ (e : EpochState). MayHandIn e r (entries_of whole.columns r)) at.epochs
          (subst (λ (es : List Entry). MayHandIn (last_state short).epochs r es) (at.entries r) (may short short_shape at.legal r))
      fits (Wipe r) = tt
      fits (Ask epoch) = tt
      fits (Merge epoch) = tt
      fits (Adopt epoch r) = tt
      fits (Enter epoch) = tt
