-- What `ack` writes goes by the chains of its footprint alone.
use Rattle.std.proofs.Common.{◌≡◌, ℕ, [], ◌∷◌, refl, ap, ◌∙◌, subst, inl}
use Rattle.std.specs.List.{list_all}
use Rattle.sid_core.specs.declared.bits.LeaseState.{LeaseState}
use Rattle.sid_core.specs.declared.call.Call.TheVariants as call
use Rattle.sid_core.specs.declared.ids.Moment.{Moment}
use Rattle.sid_core.specs.declared.reply.Reply.{Reply}
use Rattle.sid_core.specs.declared.setup.Setup.{Setup}
use Rattle.serial_table.specs.Ack.{ack}
use Rattle.serial_table.specs.View.{view, lives}
use Rattle.serial_table.specs.Decide.{outcome}
use Rattle.serial_table.proofs.Members.{IsIn}
use Rattle.stored_table.specs.Keys.{file_key, name_key, pid_key}
use Rattle.stored_table.specs.Met.{Met, files_with}
use Rattle.table_laws.specs.ByFootprint.{IsWrittenByFootprint}
use Rattle.table_laws.specs.Standing.{call_entry}
use Rattle.table_laws.proofs.AckAnswers.{own_leases_same, files_shown, ack_changes_same}
use Rattle.table_laws.proofs.AckEvents.{named_file, file_there, ack_inside, ack_touches, ack_adds_none}
use Rattle.table_laws.proofs.CallWrites.{call_written}
use Rattle.table_laws.proofs.FilesAlike.{none_comes}
use Rattle.table_laws.proofs.FileWrites.{files_alike}
use Rattle.table_laws.proofs.Touching.{touches}

module _ (setup : Setup) (n by seq number : ℕ) (moment : Moment) (key : ℕ) (state : LeaseState) (reply : Reply) where
  pub ack_written : IsWrittenByFootprint setup n (call_entry by seq number moment (call.Ack key state) reply)
  unfolding ack
  ack_written =
      call_written setup n by seq number moment (call.Ack key state) reply (λ x t info session stands alive. inl refl) (λ x. refl) (λ k j t u caller info b.
      let files = files_with n k (record { guid = info.guid; key = key }) in
      let names = name_key (record { guid = info.guid; key = key }) ∷ [] in
      let own = pid_key info.pid ∷ [] in
      let there = named_file setup n k t b.stands b.fine b.settled caller info b.guid b.pid key in
      let there_other = named_file setup n j u b.stands_other b.fine_other b.settled_other caller info b.guid b.pid key in
      let h = ack_inside setup n k t b.stands b.fine b.settled caller info b.guid b.pid key state in
      let cs = (outcome setup (view t) caller (call.Ack key state)).changes in
      let changes : cs ≡ (outcome setup (view u) caller (call.Ack key state)).changes =
      ack_changes_same setup caller key state t u b.fine.sound b.fine_other.sound
      (own_leases_same setup n by seq number moment key state reply k j caller info b.guid b.same t u b.stands b.stands_other b.fine b.fine_other)
      (files_shown setup n by seq number moment key state reply k j caller info b.guid b.same t u b.stands b.stands_other b.fine b.fine_other) there h.0.touched h.1 in
      record {
        changes = changes;
        exact = files_alike setup n k j t u b.stands b.stands_other b.fine b.fine_other [] [] files names own b.same cs there there_other
            (file_there setup n k t b.stands b.fine b.settled caller info b.guid b.pid key)
            (λ file q. subst (λ (m : Met). IsIn (file_key setup file) m.shares) b.met_alike (file_there setup n j u b.stands_other b.fine_other b.settled_other caller info b.guid b.pid key file q))
            b.settled b.settled_other
            (ack_touches setup n k t b.stands b.fine b.settled caller info b.guid b.pid key state)
            (ap (list_all (touches there_other)) changes ∙ ack_touches setup n j u b.stands_other b.fine_other b.settled_other caller info b.guid b.pid key state)
            (none_comes (lives (view t)) (lives (view u)) cs (ack_adds_none setup n k t b.stands b.fine b.settled caller info b.guid b.pid key state));
        opens = λ x i. absurd i;
      })
