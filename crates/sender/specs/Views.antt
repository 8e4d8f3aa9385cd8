-- What a sender link in its lent memory holds.
use Rattle.std.specs.Prelude.{ℕ, List}
use Rattle.unsettled.specs.Tables.{held, room}
use Rattle.unsettled.specs.Worklists.{items, space}
use Rattle.link.specs.declared.resumption.ResumingDelivery.{ResumingDelivery}
use Rattle.link.specs.declared.settings.Settings.{Settings}
use Rattle.link.specs.Seats.{seated}
use Rattle.link.specs.Views.{View, Rooms}
use Rattle.sender.specs.declared.sender_link.SenderLink.TheInside.{Inside}

abbrev pub rooms_of : (table resume resend : ℕ) → Rooms
rooms_of table resume resend = record { table = table; resume = resume; resend = resend }

abbrev pub view_of : Inside → View
view_of l =
    record {
      state = l.local_state;
      output = l.output_handle;
      input = l.input_handle;
      settings = l.settings;
      flow = l.flow_state;
      held = record { table = held l.unsettled; resume = items l.resume; resend = items l.resend };
      rooms = rooms_of (room l.unsettled) (space l.resume) (space l.resend);
      seats = seated l.seats;
    }

abbrev pub with_settings : Settings → View → View
with_settings s v =
    record {
      state = v.state;
      output = v.output;
      input = v.input;
      settings = s;
      flow = v.flow;
      held = v.held;
      rooms = v.rooms;
      seats = v.seats;
    }

-- the same link with these items left
abbrev pub resuming_with : List ResumingDelivery → View → View
resuming_with is v =
    record {
      state = v.state;
      output = v.output;
      input = v.input;
      settings = v.settings;
      flow = v.flow;
      held = record { table = v.held.table; resume = is; resend = v.held.resend };
      rooms = v.rooms;
      seats = v.seats;
    }
