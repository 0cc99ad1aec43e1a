-- Ids and lease names that a test finds the same are equal, and each is the same as itself.
use Rattle.std.proofs.Common.{◌≡◌, ◌==◌, ◌&&◌, ℕ, Bool, true, false, sym, eq-eqb}
use Rattle.std.proofs.lemmas.Bool.{eqb-true, and_parts, and_from}
use Rattle.sid_core.specs.declared.ids.Sid.{Sid}
use Rattle.sid_core.specs.declared.ids.OpenId.{OpenId}
use Rattle.sid_core.specs.declared.ids.LeaseName.{LeaseName}
use Rattle.sid_core.specs.Ids.{same_sid, same_id, same_name}

pub same_id-eq : (a b : OpenId) → same_id a b ≡ true → a ≡ b
same_id-eq a b e =
    let both = and_parts (a.pid == b.pid) (a.call == b.call) e in
    λ i. record { pid = eqb-true a.pid b.pid both.0 i; call = eqb-true a.call b.call both.1 i }

pub same_name-eq : (a b : LeaseName) → same_name a b ≡ true → a ≡ b
same_name-eq a b e =
    let both = and_parts (a.guid == b.guid) (a.key == b.key) e in
    λ i. record { guid = eqb-true a.guid b.guid both.0 i; key = eqb-true a.key b.key both.1 i }

pub same_sid-refl : (a : Sid) → same_sid a a ≡ true
same_sid-refl a = and_from (a.pid == a.pid) (a.session == a.session) (eq-eqb a.pid a.pid (λ i. a.pid)) (eq-eqb a.session a.session (λ i. a.session))

pub same_name-refl : (a : LeaseName) → same_name a a ≡ true
same_name-refl a = and_from (a.guid == a.guid) (a.key == a.key) (eq-eqb a.guid a.guid (λ i. a.guid)) (eq-eqb a.key a.key (λ i. a.key))

flip_tests : (a b : ℕ) (x y : Bool) → (a == b) ≡ x → (b == a) ≡ y → x ≡ y
flip_tests a b true true e f = λ i. true
flip_tests a b false false e f = λ i. false
flip_tests a b true false e f = let g : (b == a) ≡ true = eq-eqb b a (sym (eqb-true a b e)) in cc
flip_tests a b false true e f = let g : (a == b) ≡ true = eq-eqb a b (sym (eqb-true b a f)) in cc

pub eqb-flip : (a b : ℕ) → (a == b) ≡ (b == a)
eqb-flip a b = flip_tests a b (a == b) (b == a) (λ i. a == b) (λ i. b == a)

pub same_sid-flip : (a b : Sid) → same_sid a b ≡ same_sid b a
same_sid-flip a b = λ i. eqb-flip a.pid b.pid i && eqb-flip a.session b.session i

pub same_name-flip : (a b : LeaseName) → same_name a b ≡ same_name b a
same_name-flip a b = λ i. eqb-flip a.guid b.guid i && eqb-flip a.key b.key i

pub same_id-refl : (a : OpenId) → same_id a a ≡ true
same_id-refl a = and_from (a.pid == a.pid) (a.call == a.call) (eq-eqb a.pid a.pid (λ i. a.pid)) (eq-eqb a.call a.call (λ i. a.call))
