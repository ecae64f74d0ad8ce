-- The heading of a match, by what its log says of it.
use Rattle.std.specs.Prelude.{Some, None, Ok, Err, Option, Result}
use Rattle.formats.specs.Formats.{format_of}
use Rattle.formats.specs.declared.format.Format.{Format}
use Rattle.rally_log.specs.declared.entry.Header.{Header}
use Rattle.sheet.specs.declared.fault.ScoreFault.{ScoreFault}
use Rattle.sheet.specs.declared.fault.ScoreFault.TheVariants.{Code}
use Rattle.sheet.specs.declared.text.Heading.{Heading}

-- in the format that its code names, if it names one
abbrev pub heading_in : Header → Option Format → Result Heading ScoreFault
heading_in h None = Err Code
heading_in h (Some f) = Ok (record { number = h.number; format = f; opener = h.opener })

abbrev pub heading_of : Header → Result Heading ScoreFault
heading_of h = heading_in h (format_of h.code)
