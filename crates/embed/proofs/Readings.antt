-- A log that was not refused for want of a place is read the same with more places for entries.
use Rattle.std.proofs.Common.{◌≡◌, ℕ, ◌≤◌, Bool, true, false, ltb, List, length, Some, None, Err, ap, ◌∙◌, inl, inr, arith}
use Rattle.std.proofs.lemmas.Bool.{ltb-true, lt-ltb, true≢false}
use Rattle.rally_log.specs.Checks.{first_failed, entry_kind, entry_whole, entry_fields}
use Rattle.rally_log.specs.Readings.{Reads}
use Rattle.rally_log.specs.declared.entry.Entry.{Entry}
use Rattle.rally_log.specs.declared.faults.Check.{Check}
use Rattle.rally_log.specs.declared.faults.ReadFault.{ReadFault}
use Rattle.embed.specs.Answers.{is_room}

-- a check that fails, and is not the last, fails with more room too
other_check : (kind whole fields room more : Bool) (c : Check) → (room ≡ true → more ≡ true) → first_failed kind whole fields room ≡ Some c → is_room c ≡ false
    → first_failed kind whole fields more ≡ Some c
other_check false w f a b c h e q = e
other_check true false f a b c h e q = e
other_check true true false a b c h e q = e
other_check true true true true b c h e q = cc
other_check true true true false b c h e q = absurd (true≢false (ap (λ o. elim o [ Some c ↦ is_room c | None ↦ false ]) e ∙ q))

pub with_more_entries : (bytes : List ℕ) (places more : ℕ) (fault : ReadFault) (held : List Entry) → places ≤ more → is_room fault.check ≡ false
    → Reads bytes places (Err fault) held → Reads bytes more (Err fault) held
with_more_entries bytes places more fault held j q (inl first) = inl first
with_more_entries bytes places more fault held j q (inr k) =
    let rest = k.rest in
    let room : ltb (length held) places ≡ true → ltb (length held) more ≡ true = λ e. lt-ltb (length held) more (omega (arith, ltb-true (length held) places e)) in
    inr (record {
      header = k.header;
      rest = rest;
      written = k.written;
      known = k.known;
      fits = omega (arith, k.fits);
      more = k.more;
      failed = other_check (entry_kind rest) (entry_whole rest) (entry_fields rest) (ltb (length held) places) (ltb (length held) more) fault.check room k.failed q;
      place = k.place;
    })
