-- All places of a service at its beginning and after a call, used or not. Assumes nothing.
use Rattle.std.specs.Prelude.{false}
use Rattle.register.specs.Text.{Register}
use Rattle.standing.specs.declared.Standing.{Standing}
use Rattle.standing.specs.Places.{fresh_standing, entering, replacing}
use Rattle.standing.specs.Standing.{list_of, after_edit, after_take_back, after_reading}
use Rattle.model.specs.declared.Call.{Call}
use Rattle.model.specs.declared.Call.TheVariants.{Enter, Amend, Strike, TakeBack, Publish, Write, Ask}
use Rattle.model.specs.Edits.{insert, remove, replace, idle, enter_refusal, amend_refusal, strike_refusal}
use Rattle.service.specs.declared.Service.{Service}

-- the service of a standing list: it keeps nothing else
abbrev pub service_of : Standing → Service
service_of st = record { standing = st }

-- a fresh start
abbrev pub fresh_service : Service
fresh_service = service_of fresh_standing

-- after a reading
abbrev pub read_service : Register → Service
read_service g = service_of (after_reading g)

-- what a call leaves of the standing list: an edit or a take back what it gives, an idle amend and any other call the list as it was
unfoldable pub leaves_of : Standing → Call → Standing
leaves_of st (Enter s) = after_edit st false (enter_refusal (list_of st) s) (insert s (list_of st)) (entering s)
leaves_of st (Amend s) = after_edit st (idle (list_of st) s) (amend_refusal (list_of st) s) (replace s (list_of st)) (replacing s.number (list_of st))
leaves_of st (Strike k) = after_edit st false (strike_refusal (list_of st) k) (remove k (list_of st)) (replacing k (list_of st))
leaves_of st TakeBack = after_take_back st
leaves_of st (Publish rule) = st
leaves_of st Write = st
leaves_of st (Ask w) = st

-- and of a service
abbrev pub leaves : Service → Call → Service
leaves sv c = service_of (leaves_of sv.standing c)
