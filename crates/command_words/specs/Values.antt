-- What the texts of the options stand for.
use Rattle.std.specs.Prelude.{◌≡◌, ℕ, List, length, Option, Some, None, ℤ, pos, int_le, nat_lt, ◌&&◌, if◌then◌else◌, is_some, option_map, codes}
use Rattle.std.specs.Borrow.{Bor}
use Rattle.jiff.specs.Placed.{IsPosixZone}
use Rattle.jiff.specs.ZoneView.{plain_zone}
use Rattle.jiff_tz.specs.PosixReader.{read_whole}
use Rattle.otp_base.specs.Cut.{cut}
use Rattle.otp_base.specs.Number.{number_in}
use Rattle.otp_base.specs.Optionals.{◌>>=◌}
use Rattle.otp_model.specs.Day.{day_of}
use Rattle.otp_model.specs.Limits.{last_first_day, least_speed, most_days, most_feeds, most_reach, most_scale, most_speed}
use Rattle.otp_model.specs.declared.options.Options.{Options}
use Rattle.command_words.specs.declared.values.NamedZone.{NamedZone}

-- a zone's name in the feed, and the rule of its clock
pub record NamedRule : Type 0 where
  pub name : List ℕ
  pub rule : List ℕ

-- the options that words ask for
pub record Asked : Type 0 where
  pub zone : NamedRule
  pub first_day : ℤ
  pub days : ℕ
  pub feeds : ℕ
  pub speed : ℕ
  pub reach : ℕ
  pub scale : ℕ

-- a name and a rule of POSIX.1 ("TZ", with the times of RFC 9636), neither empty
abbrev pub named_rule : List ℕ → List ℕ → Option NamedRule
named_rule name rule =
    if nat_lt 0 (length name) && (nat_lt 0 (length rule) && is_some (read_whole rule))
    then Some (record { name = name; rule = rule }) else None

-- `b'='`
abbrev pub equals : ℕ
equals = 61

-- the same as NAME=RULE, cut at the first '='
abbrev pub zone_in : List ℕ → Option NamedRule
zone_in text = do
  parts ← cut equals text
  named_rule parts.0 parts.1

abbrev pub zone_given : Option (List ℕ) → Option NamedRule
zone_given given = given >>= zone_in

-- a day of the years 1970 to 2998
abbrev pub in_years : ℤ → Option ℤ
in_years day = if int_le (pos 0) day && int_le day (pos last_first_day) then Some day else None

-- the same as eight digits YYYYMMDD
abbrev pub first_day_in : List ℕ → Option ℤ
first_day_in text = day_of text >>= in_years

abbrev pub first_day_given : Option (List ℕ) → Option ℤ
first_day_given given = given >>= first_day_in

-- a number in its range, or the number that stands where none is given
abbrev pub number_or : ℕ → ℕ → ℕ → Option (List ℕ) → Option ℕ
number_or usual low high None = Some usual
number_or usual low high (Some text) = number_in low high text

-- the text that the code holds, if it holds one
abbrev pub text_given : Option (Bor (List ℕ)) → Option (List ℕ)
text_given given = option_map (λ text. text.now) given

-- The options whose texts stand under these names. The zone and the first day are needed; the numbers are
-- days, real-time feeds, millimetres a second, millimetres, and thousandths of a millimetre.
unfoldable pub options_in : (List ℕ → Option (List ℕ)) → Option Asked
options_in text_of = do
  zone ← zone_given (text_of (codes "zone"))
  first_day ← first_day_given (text_of (codes "from"))
  days ← number_or 7 1 most_days (text_of (codes "days"))
  feeds ← number_or 1 1 most_feeds (text_of (codes "feeds"))
  speed ← number_or 1330 least_speed most_speed (text_of (codes "speed"))
  reach ← number_or 1000000 0 most_reach (text_of (codes "reach"))
  scale ← number_or most_scale 0 most_scale (text_of (codes "scale"))
  Some (record { zone = zone; first_day = first_day; days = days; feeds = feeds; speed = speed; reach = reach; scale = scale })

-- the zone is the rule's, under its name
pub record IsNamed (named : NamedRule) (zone : NamedZone) : Type 0 where
  pub name : zone.name.now ≡ named.name
  pub rule : IsPosixZone named.rule (plain_zone zone.zone.rule)

-- the options are those that were asked for
pub record AreAsked (asked : Asked) (options : Options) : Type 0 where
  pub zone : IsPosixZone asked.zone.rule (plain_zone options.zone.rule)
  pub zone_name : options.zone_name ≡ asked.zone.name
  pub first_day : options.first_day ≡ asked.first_day
  pub days : options.days ≡ asked.days
  pub feeds : options.feeds ≡ asked.feeds
  pub speed : options.profile.speed ≡ asked.speed
  pub reach : options.profile.reach ≡ asked.reach
  pub scale : options.profile.scale ≡ asked.scale
