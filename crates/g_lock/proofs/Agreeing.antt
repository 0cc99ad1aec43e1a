-- That what is answered and done is what a table decides, whoever the living caller is that shows the lock so.
use Rattle.std.proofs.Common.{◌≡◌, ◌&&◌, ℕ, Bool, true, ◌++◌, filter, find, Option, Some, None, refl, ap, sym, subst, ◌∙◌}
use Rattle.std.specs.Option.{option_map}
use Rattle.std.specs.Ordering.{nat_cmp}
use Rattle.std.specs.FinMap.{FinMap}
use Rattle.sid_core.specs.declared.ids.Sid.{Sid}
use Rattle.sid_core.specs.declared.ids.Spot.TheVariants.{LockOf}
use Rattle.sid_core.specs.declared.call.Mode.{Mode}
use Rattle.sid_core.specs.Ids.{same_sid}
use Rattle.serial_table.specs.declared.rows.Watch.{Watch}
use Rattle.serial_table.specs.declared.decision.Caller.{Caller}
use Rattle.serial_table.specs.View.{View}
use Rattle.serial_table.specs.Change.{perform_all_by_key}
use Rattle.serial_table.specs.Decision.{own_waits_end}
use Rattle.serial_table.specs.GlobalLock.{own_holds, keeps_out, glock_by, glock}
use Rattle.record_codec.specs.declared.watch.WatchRec.{WatchRec}
use Rattle.record_codec.specs.declared.glock_rec.Hold.{Hold}
use Rattle.record_codec.specs.declared.glock_rec.GLockRec.{GLockRec}
use Rattle.record_codec.specs.declared.mail_rec.MailRec.{MailRec}
use Rattle.record_codec.specs.declared.register_rec.RegisterRec.{RegisterRec}
use Rattle.record_codec.specs.Counts.{lives}
use Rattle.server_ids.specs.Sessions.{registered}
use Rattle.record_rows.specs.Rows.{watch_row}
use Rattle.g_lock.specs.declared.answer.GAnswer.{GAnswer}
use Rattle.g_lock.specs.declared.answer.GAnswer.TheVariants.{Granted, Lowered, NotGranted, Pending, PossibleDeadlock, OutOfMemory}
use Rattle.g_lock.specs.Holds.{counted_holds, AsksAmong}
use Rattle.g_lock.specs.Answer.{IfAnswered, without_changes, told, holds_after, who_keeps_out, who_upgrades, NamesHolder, NamesOther}
use Rattle.g_lock.specs.Scans.{is_own, is_in_the_way, is_upgrade_beside, becomes, answered}
use Rattle.g_lock.proofs.Found.{is_owned, is_others, is_upgrade, own_found, in_the_way_found, upgrade_found}
use Rattle.g_lock.proofs.Deciding.{deciding, tells, decides, who_is, names_holder, names_other}
use Rattle.g_lock.proofs.Held.{after_decided}

pub answered_still : (a : GAnswer) (P Q : Type 0) → (P → Q) → IfAnswered a P → IfAnswered a Q
answered_still Granted P Q f h = f h
answered_still Lowered P Q f h = f h
answered_still (NotGranted holder) P Q f h = f h
answered_still (Pending blocker upgrade) P Q f h = f h
answered_still (PossibleDeadlock other) P Q f h = f h
answered_still OutOfMemory P Q f h = tt

pub names_no_holder : (a b : GAnswer) (o : Option Sid) → IfAnswered a (a ≡ b) → NamesHolder b o → NamesHolder a o
names_no_holder OutOfMemory b o h n = tt
names_no_holder Granted b o h n = tt
names_no_holder Lowered b o h n = tt
names_no_holder (NotGranted holder) b o h n = subst (λ x. NamesHolder x o) (sym h) n
names_no_holder (Pending blocker upgrade) b o h n = tt
names_no_holder (PossibleDeadlock other) b o h n = tt

pub names_no_other : (a b : GAnswer) (o : Option Sid) → IfAnswered a (a ≡ b) → NamesOther b o → NamesOther a o
names_no_other OutOfMemory b o h n = tt
names_no_other Granted b o h n = tt
names_no_other Lowered b o h n = tt
names_no_other (NotGranted holder) b o h n = tt
names_no_other (Pending blocker upgrade) b o h n = tt
names_no_other (PossibleDeadlock other) b o h n = subst (λ x. NamesOther x o) (sym h) n

module _ (register : FinMap nat_cmp RegisterRec) (mails : FinMap nat_cmp MailRec) (key : ℕ) (rec : GLockRec) (mode : Mode) (wait : Bool) where
  own_by : Sid → Option Hold
  own_by sid = find (is_own sid) rec.holds

  -- what is answered to this session
  abbrev pub answer_to : Sid → GAnswer
  answer_to sid = answered wait mode (find (is_own sid) rec.holds) (find (is_in_the_way register sid mode) rec.holds) (find (is_upgrade_beside mails key sid) rec.watchers)

  pub record Agrees (v : View) (caller : Caller) (sid : Sid) : Type 0 where
    pub decision : told caller key (answer_to sid) ≡ without_changes (glock v caller key mode wait)
    pub holder : NamesHolder (answer_to sid) (who_keeps_out v caller key mode)
    pub other : NamesOther (answer_to sid) (who_upgrades v caller key)
    pub holds : counted_holds register key (becomes (answer_to sid) sid mode (find (is_own sid) rec.holds) rec.holds) ≡ holds_after v key (glock v caller key mode wait)

  sid_of : (beside : Option WatchRec) → option_map (λ (watch : Watch). watch.sid) (option_map watch_row beside) ≡ option_map (λ watch. watch.sid) beside
  sid_of None = refl
  sid_of (Some watch) = refl

  by_caller : (v : View) (caller : Caller) → v.holds_of key ≡ counted_holds register key rec.holds → find (is_upgrade caller.sid) (v.watches_on (LockOf key)) ≡ option_map watch_row (find (is_upgrade_beside mails key caller.sid) rec.watchers)
      → lives (registered register) caller.sid ≡ true → Agrees v caller caller.sid
  unfolding glock
  by_caller v caller shown watch_is living =
      let own : Option Hold = find (is_own caller.sid) rec.holds in
      let first : Option Hold = find (is_in_the_way register caller.sid mode) rec.holds in
      let beside : Option WatchRec = find (is_upgrade_beside mails key caller.sid) rec.watchers in
      let first_is = ap (find (λ row. is_others caller.sid row && keeps_out mode row)) shown ∙ in_the_way_found register key rec.holds caller.sid mode in
      let is : glock_by v caller key mode wait (own_holds v caller key) ≡ deciding caller key mode wait own first beside =
      decides v caller key first beside watch_is own mode wait (ap (find (is_owned caller.sid)) shown ∙ own_found register key rec.holds caller.sid living) first_is in
      record {
        decision = tells caller key mode wait own first beside ∙ sym (ap without_changes is);
        holder = names_holder mode wait own first beside (who_keeps_out v caller key mode) (who_is v caller key mode first first_is);
        other = names_other mode wait own first beside (who_upgrades v caller key) (ap (option_map (λ (watch : Watch). watch.sid)) watch_is ∙ sid_of beside);
        holds = sym (ap (λ d. (perform_all_by_key (own_waits_end caller (v.watches_on (LockOf key)) ++ d.changes) v).holds_of key) is
            ∙ after_decided register caller living key rec.holds (filter (λ watch. same_sid watch.sid caller.sid) (v.watches_on (LockOf key))) v shown mode wait own first beside);
      }

  pub agrees : (sid : Sid) (v : View) (caller : Caller) → AsksAmong register mails key rec sid v caller → Agrees v caller sid
  agrees sid v caller asks =
      subst (Agrees v caller) asks.before.caller_is
      (by_caller v caller asks.before.holds_are
      (ap (find (is_upgrade caller.sid)) asks.watches_are ∙ upgrade_found mails key rec.watchers caller.sid)
      (ap (lives (registered register)) asks.before.caller_is ∙ asks.before.living))
