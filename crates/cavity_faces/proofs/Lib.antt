mod Hiding
