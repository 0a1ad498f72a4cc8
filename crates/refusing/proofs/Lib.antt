mod Countdown
