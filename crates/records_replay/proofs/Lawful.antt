-- The law of the rule: what an entry names, whether it is legal and what it makes go by the chains that it names, and it changes these alone.
use Rattle.std.proofs.Common.{◌≡◌, ℕ, ◌+◌, ◌*◌, ◌/◌, false, List, [], ◌∷◌, ◌++◌, length, sym, ap, ◌∙◌, subst, arith}
use lib.ListN.{get_elem?}
use Rattle.std.proofs.Props.{props}
use Rattle.std.specs.List.{AllByRecursion}
use Rattle.sid_core.specs.declared.call.Call.TheVariants as call
use Rattle.sid_core.specs.declared.entry.Entry.{Entry}
use Rattle.sid_core.specs.declared.entry.Event.{Event}
use Rattle.sid_core.specs.declared.entry.Event.TheVariants.{Called, Died, Tidied}
use Rattle.sid_core.specs.declared.setup.Setup.{Setup}
use Rattle.sid_core.specs.Setup.{IsSetup}
use Rattle.serial_table.specs.History.{after, IsLegal, IsLegalEntry}
use Rattle.serial_table.specs.Step.{view_after}
use Rattle.serial_table.specs.View.{View, view}
use Rattle.serial_table.proofs.Members.{all_of}
use Rattle.stored_table.specs.Places.{Chains, HasChains, chain_at}
use Rattle.stored_table.specs.Footprint.{footprint, footprint_list, has_number}
use Rattle.stored_table.specs.Histories.{moved_by}
use Rattle.stored_table.specs.Move.{added, is_by_old, move, new_at, places_written}
use Rattle.stored_table.specs.Stands.{StandsFor}
use Rattle.stored_table.proofs.Locality.{same_footprint, others_stay}
use Rattle.stored_table.proofs.Writing.{has_chains-write_all}
use Rattle.table_laws.specs.ByFootprint.{AgreeOnFootprint, IsLegalByFootprint}
use Rattle.table_laws.proofs.EntryWrites.{entry_written}
use Rattle.table_laws.proofs.HandleAnswers.{close_legal, delete_legal, lock_legal, unlock_legal, read_legal, write_legal}
use Rattle.table_laws.proofs.PlainAnswers.{glock_legal, gunlock_legal, recv_legal, disconnect_legal, tidy_legal, status_legal, died_legal, tidied_legal}
use Rattle.table_laws.proofs.AckAnswers.{ack_legal}
use Rattle.table_laws.proofs.OpenAnswers.{open_legal}
use Rattle.table_laws.proofs.ReconnectAnswers.{reconnect_legal}
use Rattle.table_laws.proofs.ScavengeAnswers.{scavenge_legal}
use Rattle.stored_reading.specs.Reading.{view_of_chains}
use Rattle.stored_reading.specs.Steps as steps
use Rattle.stored_reading.proofs.Stepping.{legal_alike, step_is_move, legal_step_single}
use Rattle.turn_types.specs.Journal.{Agree, Lawful, RiseWithin, Single, has}
use Rattle.records_replay.specs.Behind.{IsReached, IsReachedBefore, IsBehind, NamesAlike, ChangesItsNames}
use Rattle.records_replay.specs.Rule.{per_database, IsFirst, step, IsLegalStep, names, FollowsAs, Follows}
use Rattle.records_replay.proofs.ChainLists.{all_agree, elem_of_chain, in_has, rise_filtered, same_has}
use Rattle.records_replay.proofs.Journals.{reached_is}
use Rattle.records_replay.proofs.Padding.{had, ready}

-- ---- each entry is legal by its footprint

legal_by : (setup : Setup) (n by seq : ℕ) (what : Event) → IsLegalByFootprint setup n (record { by = by; seq = seq; what = what })
legal_by setup n by seq (Called number moment (call.OpenFile file access share lease durable overwrite delete) reply) = open_legal setup n by seq number moment file access share lease durable overwrite delete reply
legal_by setup n by seq (Called number moment (call.Close handle) reply) = close_legal setup n by seq number moment handle reply
legal_by setup n by seq (Called number moment (call.Delete handle on) reply) = delete_legal setup n by seq number moment handle reply on
legal_by setup n by seq (Called number moment (call.Ack key state) reply) = ack_legal setup n by seq number moment key state reply
legal_by setup n by seq (Called number moment (call.Lock handle span mode wait) reply) = lock_legal setup n by seq number moment handle reply span mode wait
legal_by setup n by seq (Called number moment (call.Unlock handle span) reply) = unlock_legal setup n by seq number moment handle reply span
legal_by setup n by seq (Called number moment (call.Read handle span) reply) = read_legal setup n by seq number moment handle reply span
legal_by setup n by seq (Called number moment (call.Write handle span) reply) = write_legal setup n by seq number moment handle reply span
legal_by setup n by seq (Called number moment (call.GLock key mode wait) reply) = glock_legal setup n by seq number moment key reply mode wait
legal_by setup n by seq (Called number moment (call.GUnlock key) reply) = gunlock_legal setup n by seq number moment key reply
legal_by setup n by seq (Called number moment call.Recv reply) = recv_legal setup n by seq number moment reply
legal_by setup n by seq (Called number moment call.Disconnect reply) = disconnect_legal setup n by seq number moment reply
legal_by setup n by seq (Called number moment (call.Reconnect worker made key) reply) = reconnect_legal setup n by seq number moment worker made key reply
legal_by setup n by seq (Called number moment call.Scavenge reply) = scavenge_legal setup n by seq number moment reply
legal_by setup n by seq (Called number moment call.Tidy reply) = tidy_legal setup n by seq number moment reply
legal_by setup n by seq (Called number moment (call.Status tables) reply) = status_legal setup n by seq number moment reply tables
legal_by setup n by seq (Died worker moment) = died_legal setup n by seq worker moment
legal_by setup n by seq (Tidied chain) = tidied_legal setup n by seq chain

-- ---- what a step leaves

has_chains-move : (setup : Setup) (n : ℕ) (k : Chains) (e : Entry) (v : View) → HasChains n k → HasChains n (move setup n k e v)
has_chains-move setup n k e v has = has_chains-write_all n (new_at setup n k (is_by_old setup e) v (added setup v e)) (places_written setup n k e) k has

as_long : (n : ℕ) (k j : Chains) → HasChains n k → HasChains n j → length k ≡ length j
as_long n k j a b = a.count ∙ sym b.count

-- what is shown after the entry
abbrev shown_after : Setup → Chains → Entry → View
shown_after setup k e = view_after setup (view_of_chains setup (per_database k) k) e.by e.what

module _ (setup : Setup) (k : Chains) (e : Entry) (b : IsBehind setup k) where
  step_has : HasChains (per_database k) (step setup k e)
  step_has = has_chains-move setup (per_database k) k e (shown_after setup k e) b.stands.well_formed.chains

  step_long : length (step setup k e) ≡ length k
  step_long = as_long (per_database k) (step setup k e) k step_has b.stands.well_formed.chains

  aside : (c : ℕ) → has c (names setup k e) ≡ false → get_elem? (step setup k e) c ≡ get_elem? k c
  aside c out = elem_of_chain (step setup k e) k c step_long
      (others_stay setup (per_database k) k e (shown_after setup k e) c b.stands.well_formed (same_has c (names setup k e) ∙ out))

  rise : RiseWithin 0 (length k) (names setup k e)
  rise =
      let many : length k ≡ 7 * per_database k = b.stands.well_formed.chains.count in
      rise_filtered (has_number (footprint_list setup (per_database k) k e)) 0 (length k) (7 * per_database k) 0 (omega arith) (omega (arith, many))

-- two databases that agree on what the entry names
module _ (setup : Setup) (k l : Chains) (e : Entry) (b : IsBehind setup k) (d : IsBehind setup l) (long : length k ≡ length l) (agree : Agree (names setup k e) k l) where
  abbrev n : ℕ
  n = per_database k

  many : per_database l ≡ n
  many = ap (λ m. m / 7) (sym long)

  stands_other : StandsFor setup n l (view (after setup d.history))
  stands_other = subst (λ m. StandsFor setup m l (view (after setup d.history))) many d.stands

  made_other : l ≡ moved_by setup n d.history
  made_other = d.made ∙ ap (λ m. moved_by setup m d.history) many

  on : AgreeOnFootprint setup n k l e
  on = all_agree k l (names setup k e) agree

  same_names : names setup l e ≡ names setup k e
  same_names = ap (λ m. footprint setup m l e) many ∙ sym (same_footprint setup n k l e b.stands.well_formed.chains stands_other.well_formed.chains on)

  at : IsLegalStep setup k e → IsLegalEntry setup (after setup b.history) e
  at may = (legal_alike setup n b.declared b.history e k b.legal b.stands).to_table may

  at_other : IsLegalStep setup k e → IsLegalEntry setup (after setup d.history) e
  at_other may = legal_by setup n e.by e.seq e.what k l b.history d.history b.declared b.legal d.legal b.stands stands_other on (at may)

  may_other : IsLegalStep setup k e → IsLegalStep setup l e
  may_other may = subst (λ m. steps.IsLegalStep setup m l e) (sym many) ((legal_alike setup n b.declared d.history e l d.legal stands_other).from_table (at_other may))

  -- ---- what is written

  -- as an entry that goes on both histories
  module _ (seq : ℕ) (goes_on : IsLegal setup (b.history ++ record e { seq = seq } ∷ [])) (goes_on_other : IsLegal setup (d.history ++ record e { seq = seq } ∷ [])) where
    abbrev entry : Entry
    entry = record e { seq = seq }

    abbrev made_here : Chains → Chains
    made_here j = move setup n j e (view (after setup (b.history ++ entry ∷ [])))

    abbrev made_there : Chains → Chains
    made_there j = move setup n j e (view (after setup (d.history ++ entry ∷ [])))

    -- both, as what the histories make
    moves_agree : AllByRecursion (λ c. chain_at (made_here k) c ≡ chain_at (made_there l) c) (names setup k e)
    moves_agree =
        let agrees : AgreeOnFootprint setup n (moved_by setup n b.history) (moved_by setup n d.history) entry = subst (λ (p : Chains × Chains). AgreeOnFootprint setup n p.0 p.1 e) (λ i. (b.made i, made_other i)) on in
        subst (λ (p : Chains × Chains). AllByRecursion (λ c. chain_at (made_here p.0) c ≡ chain_at (made_there p.1) c) (footprint setup n p.0 e))
        (λ i. (sym b.made i, sym made_other i))
        (entry_written setup n entry b.history d.history b.declared b.some goes_on goes_on_other agrees)

    steps_agree : Agree (names setup k e) (step setup k e) (step setup l e)
    steps_agree c is =
        elem_of_chain (step setup k e) (step setup l e) c (step_long setup k e b ∙ long ∙ sym (step_long setup l e d))
        (ap (λ x. chain_at x c) (step_is_move setup n b.declared b.history entry b.legal k b.stands)
        ∙ all_of (λ x. chain_at (made_here k) x ≡ chain_at (made_there l) x) (names setup k e) moves_agree c (in_has c (names setup k e) is)
        ∙ ap (λ x. chain_at x c) (sym (step_is_move setup n b.declared d.history entry d.legal l stands_other))
        ∙ ap (λ m. chain_at (steps.step setup m l e) c) (sym many))

-- ---- all of it

pub names_alike : (setup : Setup) (k l : Chains) (e : Entry) → IsReached setup k → IsReached setup l → length k ≡ length l → Agree (names setup k e) k l → NamesAlike setup k l e
names_alike setup k l e reached other long agree =
    let b = reached_is setup k reached in
    let d = reached_is setup l other in
    record { names = same_names setup k l e b d long agree; legal = may_other setup k l e b d long agree }

pub changes_its_names : (setup : Setup) (k : Chains) (e : Entry) → IsReached setup k → ChangesItsNames setup k e
changes_its_names setup k e reached = let b = reached_is setup k reached in record { as_many = step_long setup k e b; others = aside setup k e b; rise = rise setup k e b }

-- the chains that a journal makes, of which an entry follows the earlier ones of its pass
reached_so : (setup : Setup) (e : Entry) (k : Chains) → IsReachedBefore setup e k → IsReached setup k
reached_so setup e k (k0, journal, first, legal, follows, made) = (k0, journal, first, legal, made)

pub makes_alike : (setup : Setup) (k l : Chains) (e : Entry) → IsReachedBefore setup e k → IsReachedBefore setup e l → length k ≡ length l → Agree (names setup k e) k l
    → IsLegalStep setup k e → Agree (names setup k e) (step setup k e) (step setup l e)
makes_alike setup k l e reached other long agree may =
    let may_other = (names_alike setup k l e (reached_so setup e k reached) (reached_so setup e l other) long agree).legal may in
    let a = had setup k e reached in
    let c = had setup l e other in
    let here = ready setup k e reached may c in
    let there = ready setup l e other may_other a in
    let same : (c + a) + 1 ≡ (a + c) + 1 = omega arith in
    steps_agree setup k l e here.is_behind there.is_behind long agree ((a + c) + 1) here.goes_on
    (subst (λ seq. IsLegal setup (there.is_behind.history ++ record e { seq = seq } ∷ [])) same there.goes_on)

-- what the rule owes
pub lawful : (setup : Setup) → Lawful (IsFirst setup) (step setup) (IsLegalStep setup) (names setup) Follows
lawful setup = record {
  local = λ k l e reached other long agree. let h = names_alike setup k l e reached other long agree in (h.names, h.legal);
  made = λ k l e reached other long agree may. makes_alike setup k l e reached other long agree may;
  frame = λ k e reached may. let h = changes_its_names setup k e reached in (h.as_many, h.others);
  named = λ k e reached may. (changes_its_names setup k e reached).rise;
}

-- ---- the facts have one proof at most

setup_single : (setup : Setup) → IsProp (IsSetup setup)
setup_single setup = hlevel props

first_single : (setup : Setup) (k : Chains) → IsProp (IsFirst setup k)
first_single setup k = hlevel (setup_single, props)

follows_single : (by : ℕ) (before : List Entry) (what : Event) → IsProp (FollowsAs by before what)
follows_single by before (Called number moment call reply) = hlevel props
follows_single by before (Died worker moment) = hlevel props
follows_single by before (Tidied chain) = hlevel props

pub single : (setup : Setup) → Single (IsFirst setup) (IsLegalStep setup) Follows
single setup = record {
  first_is = first_single setup;
  legal_is = λ k e. legal_step_single setup (per_database k) k e;
  follows_is = λ before e. follows_single e.by before e.what;
}
