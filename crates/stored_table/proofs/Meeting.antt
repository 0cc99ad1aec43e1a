-- What an entry meets depends on the chains of its footprint alone.
use Rattle.std.proofs.Common.{◌≡◌, ℕ, zero, suc, ◌+◌, ◌-◌, ◌*◌, ◌%◌, ◌<◌, ◌≤◌, List, [], ◌∷◌, ◌++◌, map, Option, Some, None, refl, ap, ap₂, subst, ◌∙◌, arith, inl, inr}
use Rattle.std.specs.List.{flat_map, filter, AllByRecursion}
use Rattle.std.specs.Option.{option_map_or}
use Rattle.std.proofs.lemmas.Bool.{cases_eq, cases_lt}
use Rattle.std.proofs.Math.Nat.{mod-lt}
use Rattle.chain_map.specs.Hash.{db_number, key_hash}
use Rattle.sid_core.specs.declared.entry.Entry.{Entry}
use Rattle.sid_core.specs.declared.entry.Event.{Event}
use Rattle.sid_core.specs.declared.entry.Event.TheVariants.{Called, Died, Tidied}
use Rattle.sid_core.specs.declared.call.Call.{Call}
use Rattle.sid_core.specs.declared.call.Call.TheVariants as call
use Rattle.sid_core.specs.declared.setup.Setup.{Setup}
use Rattle.sid_core.specs.declared.setup.WorkerInfo.{WorkerInfo}
use Rattle.sid_core.specs.declared.ids.LeaseName.{LeaseName}
use Rattle.serial_table.specs.ByNumber.{declared_at}
use Rattle.chain_map.specs.declared.db.Db.{Db}
use Rattle.chain_map.specs.declared.db.Db.TheVariants as db
use Rattle.chain_map.specs.Pairs.{find}
use Rattle.record_codec.specs.Codec.{Codec}
use Rattle.record_codec.specs.OpenRec.{open_rec}
use Rattle.record_codec.specs.GLockRec.{glock_rec}
use Rattle.record_codec.specs.ShareRec.{share_rec}
use Rattle.record_codec.specs.LeaseRec.{lease_rec}
use Rattle.record_codec.specs.RegisterRec.{register_rec}
use Rattle.record_codec.specs.RangeRec.{range_rec}
use Rattle.stored_table.specs.Keys.{open_key, lock_key, pid_key, name_key, file_key}
use Rattle.stored_table.specs.Places.{Chains, Place, place, chain_of, chain_at}
use Rattle.stored_table.specs.Decoded.{decoded}
use Rattle.stored_table.specs.Met.{KeyList, Met, nothing_met, places_in, exact_places, all_met, record_at, named_at, names_in, entry_owners, ref_owners, holders, watchers, count_from, chains_in, keys_at, all_keys, met_owners, met_watchers, met_by_pids, met_by_leases, met_by_files, met_by_worker, file_of, asked_name, has_name, files_with, met_by_reconnect, met_everywhere, watchers_everywhere, met_by_call, met_by_event, met}
use Rattle.stored_table.specs.Footprint.{whole_of_call, whole_of, own_chain, footprint_list}

-- ---- lists

module _ {A : Type 0} (P : A → Type 0) where
  pub all_split : (xs ys : List A) → AllByRecursion P (xs ++ ys) → AllByRecursion P xs × AllByRecursion P ys
  all_split [] ys h = (tt, h)
  all_split (x ∷ xs) ys h = let r = all_split xs ys h.1 in ((h.0, r.0), r.1)

  pub all_from : ((x : A) → P x) → (xs : List A) → AllByRecursion P xs
  all_from h [] = tt
  all_from h (x ∷ xs) = (h x, all_from h xs)

pub all_unmap : {A B : Type 0} (P : B → Type 0) (f : A → B) (xs : List A) → AllByRecursion P (map f xs) → AllByRecursion (λ x. P (f x)) xs
all_unmap P f [] h = tt
all_unmap P f (x ∷ xs) h = (h.0, all_unmap P f xs h.1)

same_append : {A : Type 0} {a b c d : List A} → a ≡ b → c ≡ d → a ++ c ≡ b ++ d
same_append p q = λ i. p i ++ q i

-- ---- what records name

-- these chains are the same in both
abbrev pub SameChains : Chains → Chains → List ℕ → Type 0
SameChains k j cs = AllByRecursion (λ c. chain_at k c ≡ chain_at j c) cs

abbrev pub SameChainOf : ℕ → Chains → Chains → Place → Type 0
SameChainOf n k j p = chain_at k (chain_of n p) ≡ chain_at j (chain_of n p)

-- the chains of these keys are the same in both
abbrev pub SameKeys : ℕ → Chains → Chains → Db → KeyList → Type 0
SameKeys n k j d keys = AllByRecursion (λ key. SameChainOf n k j (place d key)) keys

-- the chains of all met keys are the same in both
pub record SameMet (n : ℕ) (k j : Chains) (m : Met) : Type 0 where
  pub opens : SameKeys n k j db.Opens m.opens
  pub locks : SameKeys n k j db.GLock m.locks
  pub shares : SameKeys n k j db.Locking m.shares
  pub leases : SameKeys n k j db.Leases m.leases
  pub register : SameKeys n k j db.Register m.register
  pub ranges : SameKeys n k j db.Brlock m.ranges
  pub mail : SameKeys n k j db.Mailbox m.mail

same_named : {A B : Type 0} (c : Codec (ℕ × A)) (f : A → List B) (n : ℕ) (k j : Chains) (d : Db) (keys : KeyList) → SameKeys n k j d keys → named_at c f n k d keys ≡ named_at c f n j d keys
same_named c f n k j d [] s = refl
same_named c f n k j d (key ∷ keys) s =
    ap₂ (λ pairs more. option_map_or f (decoded c (find key pairs)) [] ++ more) s.0 (same_named c f n k j d keys s.1)

same_owners : (n : ℕ) (k j : Chains) (locks files leases : KeyList) → SameKeys n k j db.GLock locks → SameKeys n k j db.Locking files → SameKeys n k j db.Leases leases
    → met_owners n k locks files leases ≡ met_owners n j locks files leases
same_owners n k j locks files leases a b c =
    same_append (same_named glock_rec holders n k j db.GLock locks a)
    (same_append (same_named share_rec entry_owners n k j db.Locking files b) (same_named lease_rec ref_owners n k j db.Leases leases c))

same_watchers : (n : ℕ) (k j : Chains) (locks files pids : KeyList) → SameKeys n k j db.GLock locks → SameKeys n k j db.Locking files → SameKeys n k j db.Register pids → SameKeys n k j db.Brlock files
    → met_watchers n k locks files pids ≡ met_watchers n j locks files pids
same_watchers n k j locks files pids a b c d =
    same_append (same_named glock_rec (λ r. watchers r.watchers) n k j db.GLock locks a)
    (same_append (same_named share_rec (λ r. watchers r.watchers) n k j db.Locking files b)
    (same_append (same_named register_rec (λ r. watchers r.watchers) n k j db.Register pids c)
    (same_named range_rec (λ r. watchers r.watchers) n k j db.Brlock files d)))

-- ---- what is met by what is met before

same_by_pids : (n : ℕ) (k j : Chains) (opens locks files leases pids : KeyList) → SameMet n k j (met_by_pids n k opens locks files leases pids)
    → met_by_pids n k opens locks files leases pids ≡ met_by_pids n j opens locks files leases pids
same_by_pids n k j opens locks files leases pids s =
    λ i. record { opens = opens; locks = locks; shares = files; leases = leases; register = pids; ranges = files; mail = pids ++ same_watchers n k j locks files pids s.locks s.shares s.register s.ranges i }

same_by_leases : (n : ℕ) (k j : Chains) (opens locks files own leases : KeyList) → SameMet n k j (met_by_leases n k opens locks files own leases)
    → met_by_leases n k opens locks files own leases ≡ met_by_leases n j opens locks files own leases
same_by_leases n k j opens locks files own leases s =
    same_by_pids n k j opens locks files leases (own ++ met_owners n k locks files leases) s
    ∙ ap (λ (pids : KeyList). met_by_pids n j opens locks files leases (own ++ pids)) (same_owners n k j locks files leases s.locks s.shares s.leases)

same_by_files : (n : ℕ) (k j : Chains) (opens locks files names own : KeyList) → SameMet n k j (met_by_files n k opens locks files names own)
    → met_by_files n k opens locks files names own ≡ met_by_files n j opens locks files names own
same_by_files n k j opens locks files names own s =
    same_by_leases n k j opens locks files own (names ++ named_at share_rec names_in n k db.Locking files) s
    ∙ ap (λ (more : KeyList). met_by_leases n j opens locks files own (names ++ more)) (same_named share_rec names_in n k j db.Locking files s.shares)

-- An open record says which file is met.
same_through : (setup : Setup) (n : ℕ) (k j : Chains) (read opens names own : KeyList) → SameKeys n k j db.Opens read
    → SameMet n k j (met_by_files n k opens [] (named_at open_rec (file_of setup) n k db.Opens read) names own)
    → met_by_files n k opens [] (named_at open_rec (file_of setup) n k db.Opens read) names own ≡ met_by_files n j opens [] (named_at open_rec (file_of setup) n j db.Opens read) names own
same_through setup n k j read opens names own r s =
    same_by_files n k j opens [] (named_at open_rec (file_of setup) n k db.Opens read) names own s
    ∙ ap (λ (files : KeyList). met_by_files n j opens [] files names own) (same_named open_rec (file_of setup) n k j db.Opens read r)

-- ---- whole databases

same_keys_at : (k j : Chains) (cs : List ℕ) → SameChains k j cs → flat_map (keys_at k) cs ≡ flat_map (keys_at j) cs
same_keys_at k j [] s = refl
same_keys_at k j (c ∷ cs) s = same_append (ap (map (λ pair. pair.0)) s.0) (same_keys_at k j cs s.1)

pub at_count : (P : ℕ → Type 0) (low n c : ℕ) → low ≤ c → c < low + n → AllByRecursion P (count_from low n) → P c
at_count P low zero c a b h = absurd (omega (arith, a, b))
at_count P low (suc n) c a b h = elim (cases_eq low c) [
  | inl same ↦ subst P same h.0
  | inr apart ↦ at_count P (suc low) n c (above low c a apart) (omega (arith, b)) h.1
]
  where
    above : (low c : ℕ) → low ≤ c → (low ≡ c → ⊥) → suc low ≤ c
    above low c a apart = elim (cases_lt low c) [ inl l ↦ omega (arith, l) | inr g ↦ absurd (apart (omega (arith, a, g))) ]

-- each key of a database that is the same whole
in_whole : (n : ℕ) (k j : Chains) (d : Db) (key : List ℕ) → 1 ≤ n → SameChains k j (chains_in n d) → SameChainOf n k j (place d key)
in_whole n k j d key some s =
    let low : key_hash key % n < n = mod-lt (key_hash key) (omega arith) in
    at_count (λ c. chain_at k c ≡ chain_at j c) ((db_number d - 1) * n) n (chain_of n (place d key)) (omega arith) (omega (arith, low)) s

whole_keys : (n : ℕ) (k j : Chains) (d : Db) (keys : KeyList) → 1 ≤ n → SameChains k j (chains_in n d) → SameKeys n k j d keys
whole_keys n k j d keys some s = all_from (λ key. SameChainOf n k j (place d key)) (λ key. in_whole n k j d key some s) keys

-- all that the records of a database name
same_all : {A B : Type 0} (c : Codec (ℕ × A)) (f : A → List B) (n : ℕ) (k j : Chains) (d : Db) → 1 ≤ n → SameChains k j (chains_in n d)
    → named_at c f n k d (all_keys n k d) ≡ named_at c f n j d (all_keys n j d)
same_all c f n k j d some s =
    same_named c f n k j d (all_keys n k d) (whole_keys n k j d (all_keys n k d) some s)
    ∙ ap (named_at c f n j d) (same_keys_at k j (chains_in n d) s)

same_files_with : (n : ℕ) (k j : Chains) (name : LeaseName) → 1 ≤ n → SameChains k j (chains_in n db.Locking) → files_with n k name ≡ files_with n j name
same_files_with n k j name some s =
    (λ i. filter (λ key. has_name name (decoded share_rec (find key (in_whole n k j db.Locking key some s i)))) (all_keys n k db.Locking))
    ∙ ap (filter (λ key. has_name name (record_at share_rec n j db.Locking key))) (same_keys_at k j (chains_in n db.Locking) s)

-- ---- each call

abbrev Wholes : ℕ → Chains → Chains → List Db → Type 0
Wholes n k j ds = AllByRecursion (λ d. SameChains k j (chains_in n d)) ds

same_everywhere : (n : ℕ) (k j : Chains) (mail_k mail_j : KeyList) → mail_k ≡ mail_j → SameChains k j (chains_in n db.Locking) → SameChains k j (chains_in n db.Leases) → SameChains k j (chains_in n db.Register) → SameChains k j (chains_in n db.Brlock)
    → met_everywhere n k mail_k ≡ met_everywhere n j mail_j
same_everywhere n k j mail_k mail_j m a b c d = λ i. record {
  opens = [];
  locks = [];
  shares = same_keys_at k j (chains_in n db.Locking) a i;
  leases = same_keys_at k j (chains_in n db.Leases) b i;
  register = same_keys_at k j (chains_in n db.Register) c i;
  ranges = same_keys_at k j (chains_in n db.Brlock) d i;
  mail = m i;
}

same_mailboxes : (n : ℕ) (k j : Chains) → 1 ≤ n → SameChains k j (chains_in n db.Locking) → SameChains k j (chains_in n db.Register) → SameChains k j (chains_in n db.Brlock)
    → all_keys n k db.Register ++ watchers_everywhere n k ≡ all_keys n j db.Register ++ watchers_everywhere n j
same_mailboxes n k j some a c d =
    same_append (same_keys_at k j (chains_in n db.Register) c)
    (same_append (same_all share_rec (λ r. watchers r.watchers) n k j db.Locking some a)
    (same_append (same_all register_rec (λ r. watchers r.watchers) n k j db.Register some c)
    (same_all range_rec (λ r. watchers r.watchers) n k j db.Brlock some d)))

same_reconnect : (setup : Setup) (n : ℕ) (k j : Chains) (caller : WorkerInfo) (number made key : ℕ) (o : Option WorkerInfo)
    → SameMet n k j (option_map_or (met_by_reconnect setup n k caller number made key) o nothing_met)
    → option_map_or (met_by_reconnect setup n k caller number made key) o nothing_met ≡ option_map_or (met_by_reconnect setup n j caller number made key) o nothing_met
same_reconnect setup n k j caller number made key None s = refl
same_reconnect setup n k j caller number made key (Some named) s =
    same_through setup n k j (open_key named.pid made ∷ []) (open_key named.pid made ∷ open_key caller.pid number ∷ []) (name_key (record { guid = caller.guid; key = key }) ∷ []) (pid_key caller.pid ∷ []) (s.opens.0, tt) s

same_handle : (setup : Setup) (n : ℕ) (k j : Chains) (caller : WorkerInfo) (handle : ℕ)
    → SameMet n k j (met_by_files n k (open_key caller.pid handle ∷ []) [] (named_at open_rec (file_of setup) n k db.Opens (open_key caller.pid handle ∷ [])) [] (pid_key caller.pid ∷ []))
    → met_by_files n k (open_key caller.pid handle ∷ []) [] (named_at open_rec (file_of setup) n k db.Opens (open_key caller.pid handle ∷ [])) [] (pid_key caller.pid ∷ [])
    ≡ met_by_files n j (open_key caller.pid handle ∷ []) [] (named_at open_rec (file_of setup) n j db.Opens (open_key caller.pid handle ∷ [])) [] (pid_key caller.pid ∷ [])
same_handle setup n k j caller handle s = same_through setup n k j (open_key caller.pid handle ∷ []) (open_key caller.pid handle ∷ []) [] (pid_key caller.pid ∷ []) s.opens s

same_call : (setup : Setup) (n : ℕ) (k j : Chains) (caller : WorkerInfo) (number : ℕ) (call : Call) → 1 ≤ n → SameMet n k j (met_by_call setup n k caller number call) → Wholes n k j (whole_of_call call)
    → met_by_call setup n k caller number call ≡ met_by_call setup n j caller number call
same_call setup n k j caller number (call.OpenFile file access share lease durable overwrite delete) some s w =
    same_by_files n k j (open_key caller.pid number ∷ []) [] (file_key setup file ∷ []) (asked_name caller lease) (pid_key caller.pid ∷ []) s
same_call setup n k j caller number (call.Close handle) some s w = same_handle setup n k j caller handle s
same_call setup n k j caller number (call.Delete handle on) some s w = same_handle setup n k j caller handle s
same_call setup n k j caller number (call.Lock handle span mode wait) some s w = same_handle setup n k j caller handle s
same_call setup n k j caller number (call.Unlock handle span) some s w = same_handle setup n k j caller handle s
same_call setup n k j caller number (call.Read handle span) some s w = same_handle setup n k j caller handle s
same_call setup n k j caller number (call.Write handle span) some s w = same_handle setup n k j caller handle s
same_call setup n k j caller number (call.Ack key state) some s w =
    let name : LeaseName = record { guid = caller.guid; key = key } in
    same_by_files n k j [] [] (files_with n k name) (name_key name ∷ []) (pid_key caller.pid ∷ []) s
    ∙ ap (λ (files : KeyList). met_by_files n j [] [] files (name_key name ∷ []) (pid_key caller.pid ∷ [])) (same_files_with n k j name some w.0)
same_call setup n k j caller number (call.GLock key mode wait) some s w = same_by_files n k j [] (lock_key key ∷ []) [] [] (pid_key caller.pid ∷ []) s
same_call setup n k j caller number (call.GUnlock key) some s w = same_by_files n k j [] (lock_key key ∷ []) [] [] (pid_key caller.pid ∷ []) s
same_call setup n k j caller number call.Recv some s w = same_by_files n k j [] [] [] [] (pid_key caller.pid ∷ []) s
same_call setup n k j caller number call.Disconnect some s w = same_by_files n k j [] [] [] [] (pid_key caller.pid ∷ []) s
same_call setup n k j caller number (call.Reconnect worker made key) some s w = same_reconnect setup n k j caller number made key (declared_at setup.workers worker) s
same_call setup n k j caller number call.Scavenge some s w =
    same_everywhere n k j (all_keys n k db.Register ++ watchers_everywhere n k) (all_keys n j db.Register ++ watchers_everywhere n j) (same_mailboxes n k j some w.0 w.1.1.0 w.1.1.1.0) w.0 w.1.0 w.1.1.0 w.1.1.1.0
same_call setup n k j caller number call.Tidy some s w = refl
same_call setup n k j caller number (call.Status tables) some s w = same_everywhere n k j [] [] refl w.0 w.1.0 w.1.1.0 w.1.1.1.0

-- ---- each entry

same_caller : (setup : Setup) (n : ℕ) (k j : Chains) (number : ℕ) (call : Call) (o : Option WorkerInfo) → 1 ≤ n
    → SameMet n k j (option_map_or (λ caller. met_by_call setup n k caller number call) o nothing_met) → Wholes n k j (whole_of_call call)
    → option_map_or (λ caller. met_by_call setup n k caller number call) o nothing_met ≡ option_map_or (λ caller. met_by_call setup n j caller number call) o nothing_met
same_caller setup n k j number call None some s w = refl
same_caller setup n k j number call (Some caller) some s w = same_call setup n k j caller number call some s w

same_dead : (n : ℕ) (k j : Chains) (o : Option WorkerInfo) → SameMet n k j (option_map_or (met_by_worker n k) o nothing_met) → option_map_or (met_by_worker n k) o nothing_met ≡ option_map_or (met_by_worker n j) o nothing_met
same_dead n k j None s = refl
same_dead n k j (Some dead) s = same_by_files n k j [] [] [] [] (pid_key dead.pid ∷ []) s

same_event : (setup : Setup) (n : ℕ) (k j : Chains) (by : ℕ) (event : Event) → 1 ≤ n → SameMet n k j (met_by_event setup n k by event) → Wholes n k j (whole_of event) → met_by_event setup n k by event ≡ met_by_event setup n j by event
same_event setup n k j by (Called number moment call reply) some s w = same_caller setup n k j number call (declared_at setup.workers by) some s w
same_event setup n k j by (Died worker moment) some s w = same_dead n k j (declared_at setup.workers worker) s
same_event setup n k j by (Tidied chain) some s w = refl

-- ---- by the chains of the footprint

in_places : (n : ℕ) (k j : Chains) (d : Db) (keys : KeyList) → AllByRecursion (SameChainOf n k j) (places_in d keys) → SameKeys n k j d keys
in_places n k j d keys h = all_unmap (SameChainOf n k j) (place d) keys h

same_met_from : (n : ℕ) (k j : Chains) (m : Met) → AllByRecursion (SameChainOf n k j) (all_met m) → SameMet n k j m
same_met_from n k j m h =
    let a = all_split (SameChainOf n k j) (places_in db.Opens m.opens) (exact_places m) h in
    let b = all_split (SameChainOf n k j) (places_in db.GLock m.locks) _ a.1 in
    let c = all_split (SameChainOf n k j) (places_in db.Locking m.shares) _ b.1 in
    let d = all_split (SameChainOf n k j) (places_in db.Leases m.leases) _ c.1 in
    let e = all_split (SameChainOf n k j) (places_in db.Register m.register) _ d.1 in
    let f = all_split (SameChainOf n k j) (places_in db.Brlock m.ranges) (places_in db.Mailbox m.mail) e.1 in
    record {
      opens = in_places n k j db.Opens m.opens a.0;
      locks = in_places n k j db.GLock m.locks b.0;
      shares = in_places n k j db.Locking m.shares c.0;
      leases = in_places n k j db.Leases m.leases d.0;
      register = in_places n k j db.Register m.register e.0;
      ranges = in_places n k j db.Brlock m.ranges f.0;
      mail = in_places n k j db.Mailbox m.mail f.1;
    }

wholes_from : (n : ℕ) (k j : Chains) (ds : List Db) → SameChains k j (flat_map (chains_in n) ds) → Wholes n k j ds
wholes_from n k j [] h = tt
wholes_from n k j (d ∷ ds) h = let r = all_split (λ c. chain_at k c ≡ chain_at j c) (chains_in n d) (flat_map (chains_in n) ds) h in (r.0, wholes_from n k j ds r.1)

-- what holds of each chain of the footprint, of the chains of met keys, of whole databases and of the tidied chain
pub footprint_parts : (setup : Setup) (n : ℕ) (k : Chains) (e : Entry) (P : ℕ → Type 0) → AllByRecursion P (footprint_list setup n k e)
    → AllByRecursion (λ p. P (chain_of n p)) (all_met (met setup n k e)) × (AllByRecursion P (flat_map (chains_in n) (whole_of e.what)) × AllByRecursion P (own_chain e.what))
footprint_parts setup n k e P h =
    let a = all_split P (map (chain_of n) (all_met (met setup n k e))) (flat_map (chains_in n) (whole_of e.what) ++ own_chain e.what) h in
    let b = all_split P (flat_map (chains_in n) (whole_of e.what)) (own_chain e.what) a.1 in
    (all_unmap P (chain_of n) (all_met (met setup n k e)) a.0, b)

pub same_met : (setup : Setup) (n : ℕ) (k j : Chains) (e : Entry) → 1 ≤ n → SameChains k j (footprint_list setup n k e) → met setup n k e ≡ met setup n j e
same_met setup n k j e some h =
    let parts = footprint_parts setup n k e (λ c. chain_at k c ≡ chain_at j c) h in
    same_event setup n k j e.by e.what some (same_met_from n k j (met setup n k e) parts.0) (wholes_from n k j (whole_of e.what) parts.1.0)

pub same_footprint_list : (setup : Setup) (n : ℕ) (k j : Chains) (e : Entry) → 1 ≤ n → SameChains k j (footprint_list setup n k e) → footprint_list setup n k e ≡ footprint_list setup n j e
same_footprint_list setup n k j e some h = ap (λ (m : Met). map (chain_of n) (all_met m) ++ (flat_map (chains_in n) (whole_of e.what) ++ own_chain e.what)) (same_met setup n k j e some h)
